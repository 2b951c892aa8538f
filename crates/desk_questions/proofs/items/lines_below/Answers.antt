use Rattle.std.proofs.Common.{◌≡◌, ◌⊎◌, inl, inr, ◌-◌, ◌<◌, ◌≤◌, List, length, sym, ap, ◌∙◌, arith}
use Rattle.desk_questions.specs.declared.line.ItemLine.{ItemLine}
use Rattle.desk_questions.specs.Items.{wanted_of}
use Rattle.desk_questions.proofs.Paged.{rows_then, step, whole}
use Rattle.desk_questions.proofs.items.lines_below.Goals as goal
use Rattle.desk_questions.proofs.items.lines_below.Goals.{then-loop-left-test+else-len-lt-MOST_ROWS, else-loop-left-test}

pub loop-left-preserved : goal.loop-left-preserved
loop-left-preserved c = λ h stands.
    let w = wanted_of c.args.wanted.now in
    let rows = c.loop-left.rows.items in
    let few : length rows < 100 = omega (arith, c.loop-left.rows.ok.0, c.len.ensures, c.if-len-lt-MOST_ROWS.true) in
    c.loop-left.invariant h stands
    ∙ step h w rows c.loop-left.left (omega (arith, c.loop-left-test.true)) few
    ∙ ap (λ (all : List ItemLine). rows_then h w all (c.loop-left.left - 1)) (sym (c.in_ok-add_wanted.ensures h stands))

pub returns : goal.returns
returns c = λ h stands.
    let rows = c.loop-left.rows.items in
    let over : (c.loop-left.left ≡ 0) ⊎ (100 ≤ length rows) =
    elim c.loop-left-test.branch [
      | then-loop-left-test+else-len-lt-MOST_ROWS w ↦ inr (omega (arith, c.loop-left.rows.ok.0, w.len.ensures, w.if-len-lt-MOST_ROWS.false))
      | else-loop-left-test w ↦ inl (omega (arith, w.loop-left-test.false))
    ] in
    sym (c.loop-left.invariant h stands ∙ whole h (wanted_of c.args.wanted.now) rows c.loop-left.left over)
