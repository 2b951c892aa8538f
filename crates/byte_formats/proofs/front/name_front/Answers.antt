use Rattle.std.proofs.Common.{take, Option, Some, None, subst}
use Rattle.std.specs.Prelude.{IfSome, IsTrue, MatchOption}
use Rattle.news_types.specs.Names.{is_name}
use Rattle.byte_formats.proofs.Names.{name_scans, name_text}
use Rattle.byte_formats.proofs.front.name_front.Goals as goal

if_name : {A : Type 0} (o : Option A) (N : Type 0) (P : A → Type 0) (Q : Type 0) → MatchOption o N P → ((x : A) → P x → Q) → IfSome o (λ x. Q)
if_name (Some x) N P Q met give = give x met
if_name None N P Q met give = tt

pub returns-in_err-text_front-clause-none : goal.returns-in_err-text_front-clause-none
returns-in_err-text_front-clause-none c = λ none long name. c.text_front.ensures.none c.in_err-text_front.was long (name_text (take c.args.len c.args.bytes.now) name)

pub returns-clause-scans : goal.returns-clause-scans
returns-clause-scans c =
    let text = c.in_ok-text_front.ensures in
    if_name c.read.result _ _ _ c.read.ensures (λ name both. name_scans c.args.len c.args.bytes.now text.long (subst (λ l. IsTrue (is_name l)) text.text both.0))
