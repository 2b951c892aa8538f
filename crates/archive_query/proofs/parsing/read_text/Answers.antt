use Rattle.std.proofs.Common.{◌≡◌, ◌∙◌, ◌+◌, List, length, sym, ap, subst, Err, arith}
use Rattle.news_types.specs.Names.{Bytes}
use Rattle.archive_query.specs.declared.parsing.QueryFault.{QueryFault}
use Rattle.archive_query.specs.declared.tokens.Place.TheVariants.{Start}
use Rattle.archive_query.specs.Tokens.{joined}
use Rattle.archive_query.specs.Reading.{State, start, run}
use Rattle.archive_query.specs.Readers.{state_of}
use Rattle.archive_query.specs.Parsing.{IsReadAs, read_text}
use Rattle.archive_query.proofs.Cutting.{joined_from, joined_tail}
use Rattle.archive_query.proofs.Leads.{run_step}
use Rattle.archive_query.proofs.Verdicts.{step_refused, end_refused, end_reads}
use Rattle.archive_query.proofs.parsing.read_text.Goals as goal

pub loop-token-init : goal.loop-token-init
loop-token-init c = record {
  reads = ap (λ (s : State). run 32 s c.of-tokens.result) c.new-reader.ensures ∙ ap (run 32 start) c.of-tokens.ensures;
  place = omega (arith, ap length (joined_from Start c.args.text.now), ap (λ (ts : List Bytes). length (joined ts)) c.of-tokens.ensures);
}

pub loop-token-preserved : goal.loop-token-preserved
loop-token-preserved c =
    let s = state_of c.loop-token.reader in
    record {
      reads = sym (run_step 32 s (state_of c.step.new.self) c.in-Some.token.now c.next.new.self c.in_default-step.ensures) ∙ (ap (run 32 s) (sym c.in-Some.ensures) ∙ c.loop-token.invariant.reads);
      place = omega (arith, c.len.ensures, joined_tail c.in-Some.token.now c.next.new.self, ap (λ (ts : List Bytes). length (joined ts)) c.in-Some.ensures, c.loop-token.invariant.place);
    }

pub returns-in-Err : goal.returns-in-Err
returns-in-Err c =
    let text = c.args.text.now in
    let s = state_of c.loop-token.reader in
    subst (λ (f : QueryFault). IsReadAs text (Err f) (read_text text)) (sym c.fault_at.ensures)
    (step_refused text c.in-Err.stop c.loop-token.at s (state_of c.step.new.self) c.in-Some.token.now c.next.new.self
    (ap (run 32 s) (sym c.in-Some.ensures) ∙ c.loop-token.invariant.reads)
    (subst (λ (ts : List Bytes). c.loop-token.at + length (joined ts) ≡ length text) c.in-Some.ensures c.loop-token.invariant.place) c.in-Err.ensures)

pub returns-in-Ok : goal.returns-in-Ok
returns-in-Ok c =
    let s = state_of c.loop-token.reader in
    end_reads c.args.text.now s c.in-Ok.ask (ap (run 32 s) (sym c.in_default.ensures.0) ∙ c.loop-token.invariant.reads) c.in-Ok.ensures

pub returns-in-Err-end : goal.returns-in-Err-end
returns-in-Err-end c =
    let text = c.args.text.now in
    let s = state_of c.loop-token.reader in
    subst (λ (f : QueryFault). IsReadAs text (Err f) (read_text text)) (sym c.fault_at-in-Err-end.ensures)
    (end_refused text c.in-Err-end.stop c.loop-token.at s (ap (run 32 s) (sym c.in_default.ensures.0) ∙ c.loop-token.invariant.reads)
    (subst (λ (ts : List Bytes). c.loop-token.at + length (joined ts) ≡ length text) c.in_default.ensures.0 c.loop-token.invariant.place) c.in-Err-end.ensures)
