-- What an answer at a list as it was is to a run over lines.
use Rattle.std.proofs.Common.{◌≡◌, ℕ, List, false, [], inl, refl, ◌∙◌, arith}
use Rattle.std.specs.Prelude.{Result, Ok, Err, Vec}
use Rattle.std.specs.declared.alloc.Global.{Global}
use mathlib.Core.Bool.{false≢true}
use Rattle.news_types.specs.Names.{Bytes}
use Rattle.news_types.specs.History.{History}
use Rattle.news_io.specs.Keeper.{KeeperMeaning}
use Rattle.news_io.specs.declared.record.Record.{Record}
use Rattle.news_room.specs.Opening.{IsOpened}
use Rattle.news_room.specs.Stands.{Stands, Tells}
use Rattle.news_room.specs.declared.room.Room.{Room}
use Rattle.input_lines.specs.Lines.{Line}
use Rattle.line_run.specs.Life.{Took, Kept}
use Rattle.line_run.specs.Step.{IsStep, StepCounts, KeeperStopped}
use Rattle.line_run.specs.declared.answering.Stopped.{Stopped}
use Rattle.line_run.specs.declared.answering.Stopped.TheVariants as stopped
use Rattle.room_runs.specs.Texts.{IsText}
use Rattle.list_runs.specs.declared.past.PastDesk.{PastDesk}
use Rattle.list_runs.specs.Past.{of_past, line_bytes}
use Rattle.list_runs.specs.Life.{StandsAtPast, past_life, untold}

by_memory : (why : Stopped) → why ≡ stopped.Memory → KeeperStopped why → ⊥
by_memory stopped.Memory is by = by
by_memory stopped.Fault is by = absurd cc
by_memory stopped.Full is by = absurd cc

not_full : (why : Stopped) → why ≡ stopped.Memory → why ≡ stopped.Full → ⊥
not_full why is full = absurd cc

module _ {K : Type 0} (keeper : KeeperMeaning K) (d : PastDesk K) (h : History) (stands : StandsAtPast keeper d h) where
  kept : Kept (past_life keeper) d d h h
  kept = record { list = stands; time = record { later = omega arith; nothing_else = λ t c le since. absurd since; keeps = λ t c le past. past } }

  took : Took (past_life keeper) d d []
  took = record { told = λ t. t; gave = λ t. absurd t }

  pub step : (said : Line) (text : Bytes) (r : Result (Vec ℕ Global) Stopped) → text ≡ line_bytes h said → IsText text r → IsStep of_past (past_life keeper) d d h said r
  step said text (Ok v) is told = record { at = 0; text_is = told ∙ is; fits = refl; kept = kept; calm = λ e doubted. absurd doubted; clock = took }
  step said text (Err why) is told = record {
    at = 0;
    part = [];
    first = ([], refl);
    unkept = λ by. absurd (by_memory why told by);
    full = λ full. absurd (not_full why told full);
    kept = kept;
    doubt = λ e doubted. absurd doubted;
    took = [];
    some = inl refl;
    clock = took;
  }

pub text_counts : (text : Bytes) (r : Result (Vec ℕ Global) Stopped) → IsText text r → StepCounts 0 0 r
text_counts text (Ok v) told = refl
text_counts text (Err stopped.Memory) told = refl
text_counts text (Err stopped.Full) told = refl
text_counts text (Err stopped.Fault) told = absurd cc

-- a room that was opened stands for its list, whatever its keeper has
pub opened_stands : {K : Type 0} (keeper : KeeperMeaning K) (k : K) (store : Bytes) (records : List Record) (r : Room K) (o : IsOpened keeper k store records r) → Stands keeper r (untold store o.history)
opened_stands keeper k store records r o = o.stands false (λ is. absurd {A = Tells keeper k store o.history} (false≢true is))
