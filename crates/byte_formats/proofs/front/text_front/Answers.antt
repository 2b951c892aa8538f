use Rattle.std.proofs.Common.{◌≡◌, take, Result, Ok, Err, ℕ, ◌-◌, ◌∙◌, ap, subst, arith}
use Rattle.std.specs.Prelude.{IfSome, IsUtf8}
use Rattle.std.specs.Result.{MatchResult, result_ok}
use Rattle.byte_formats.proofs.Texts.{text_scans}
use Rattle.byte_formats.proofs.front.text_front.Goals as goal

if_text : {A E : Type 0} (r : Result A E) (P : A → Type 0) (N : E → Type 0) (Q : Type 0) → MatchResult r P N → ((x : A) → P x → Q) → IfSome (result_ok r) (λ x. Q)
if_text (Ok x) P N Q met give = give x met
if_text (Err e) P N Q met give = tt

pub returns-clause-scans : goal.returns-clause-scans
returns-clause-scans c =
    let look = c.in_ok-front.ensures.lookup in
    let less : c.args.len - 0 ≡ c.args.len = omega arith in
    let same : c.in_ok-front.front.now ≡ take c.args.len c.args.bytes.now = look.0.2 ∙ ap (λ (n : ℕ). take n c.args.bytes.now) less in
    rw c.ok.ensures.value (if_text c.from_utf8.result _ _ _ c.from_utf8.ensures.cases (λ text both. text_scans c.args.len c.args.bytes.now look.0.1 (subst IsUtf8 same both.1)))
