use Rattle.std.proofs.Common.{ap, sym, refl, true, false, ◌≡◌, ◌∙◌, arith, Some, None, rules}
use Rattle.byte_formats.proofs.Laws.{bytes_from}
use Rattle.package_members.specs.Members.{make_package}
use Rattle.package_rules.specs.Text.{lines_of, package_of}
use Rattle.package_rules.proofs.Texts.{read_found, read_only, no_package, makes_none, some_package}
use Rattle.package_rules.proofs.text.read_package.Goals as goal

pub returns-in_default-clause-only : goal.returns-in_default-clause-only
returns-in_default-clause-only c =
    let lines : None ≡ lines_of c.args.body.now = rw c.in_default.is at c.in_ok-members.ensures in
    no_package c.args.body.now None lines refl

pub returns-then-not-makes_package-clause-only : goal.returns-then-not-makes_package-clause-only
returns-then-not-makes_package-clause-only c =
    let lines : Some c.in-Some.members.items ≡ lines_of c.args.body.now = rw c.in-Some.is at c.in_ok-members.ensures in
    let none : make_package c.in-Some.members.items ≡ false = search rules in
    no_package c.args.body.now (Some c.in-Some.members.items) lines (makes_none c.in-Some.members.items none)

pub returns-clause-found : goal.returns-clause-found
returns-clause-found c =
    let lines : Some c.in-Some.members.items ≡ lines_of c.args.body.now = rw c.in-Some.is at c.in_ok-members.ensures in
    let make : make_package c.in-Some.members.items ≡ true = search rules in
    rw c.of.ensures (read_found c.args.body.now c.in-Some.members.items (bytes_from c.args.body.now (λ i. omega (arith, c.type_inv.body i))) lines make)

pub returns-clause-only : goal.returns-clause-only
returns-clause-only c =
    let lines : Some c.in-Some.members.items ≡ lines_of c.args.body.now = rw c.in-Some.is at c.in_ok-members.ensures in
    let make : make_package c.in-Some.members.items ≡ true = search rules in
    rw c.of.ensures (read_only c.args.body.now (Some c.in-Some.members.items) (some_package c.args.body.now c.in-Some.members.items lines make))
