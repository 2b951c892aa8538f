use Rattle.std.proofs.Common.{sym, ap, ◌∙◌, subst, arith, take, drop, length-drop, nat_eq}
use Rattle.std.specs.List.{list_any}
use Rattle.std.proofs.lemmas.List.{take_all, take-append-drop}
use Rattle.httparse.specs.Grammar.{HasNoRequest, MayBecomeRequest}
use Rattle.http_wire.specs.Unfinished.{EndsNoLine, BeginsHead}
use Rattle.http_wire.proofs.Open.{begins_more, begins_parsed}
use Rattle.http_wire.proofs.seek.head_in.Goals as goal

pub returns-then-not-contains : goal.returns-then-not-contains
returns-then-not-contains c =
    let bytes = c.args.bytes.now in
    let seen = c.args.seen in
    let rest = drop seen bytes in
    let all = take_all _ rest (omega (arith, length-drop seen bytes)) in
    let quiet : EndsNoLine rest = ap (list_any (λ b. nat_eq b 10)) (sym all) ∙ sym c.contains.ensures.value ∙ c.if-not-contains.true in
    (subst BeginsHead (take-append-drop seen bytes) (begins_more (take seen bytes) rest c.requires.begun quiet), c.if-bytes-lt-MOST_HEAD.true)

pub returns-then-bytes-lt-MOST_HEAD-2 : goal.returns-then-bytes-lt-MOST_HEAD-2
returns-then-bytes-lt-MOST_HEAD-2 c =
    let found = c.in-More.ensures.found in
    let lt = c.if-bytes-lt-MOST_HEAD-2.true in
    (begins_parsed c.args.bytes.now lt (subst HasNoRequest c.look.ensures.value found.0) (subst MayBecomeRequest c.look.ensures.value found.1), lt)

pub returns-else-bytes-lt-MOST_HEAD-2 : goal.returns-else-bytes-lt-MOST_HEAD-2
returns-else-bytes-lt-MOST_HEAD-2 c =
    let found = c.in-More.ensures.found in
    (c.if-bytes-lt-MOST_HEAD-2.false, subst HasNoRequest c.look.ensures.value found.0, subst MayBecomeRequest c.look.ensures.value found.1)
