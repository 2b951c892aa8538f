-- A run of what has another at hand, and a run of the other.
use Rattle.std.proofs.Common.{◌≡◌, ℕ, List, Result, Ok, Err, ◌++◌, take, subst}
use Rattle.news_io.specs.Source.{SourceMeaning}
use Rattle.news_io.specs.Sink.{SinkMeaning}
use Rattle.line_run.specs.Along.{along}
use Rattle.line_run.specs.Life.{Meaning, Life, Took, Kept}
use Rattle.line_run.specs.Run.{IsEnd}
use Rattle.line_run.specs.Status.{IsRun, CrashLeaves}
use Rattle.line_run.specs.Turns.{AnsweredAll, AnsweredSome, Did}
use Rattle.line_run.specs.declared.ending.Ending.{Ending}
use Rattle.line_run.specs.declared.ending.Ending.TheVariants as end

module _ {T C A B : Type 0} (L : Life T C A) (hand : B → A) (keeps : B → Type 0) (old new : B) where
  kept_along : (h g : List T) → keeps new → Kept L (hand old) (hand new) h g → Kept (along L hand keeps) old new h g
  kept_along h g is k = record { list = (is, k.list); time = k.time }

  kept_alone : (h g : List T) → Kept (along L hand keeps) old new h g → Kept L (hand old) (hand new) h g
  kept_alone h g k = record { list = k.list.1; time = k.time }

  took_along : (readings : List ℕ) → Took L (hand old) (hand new) readings → Took (along L hand keeps) old new readings
  took_along readings t = record { told = t.told; gave = t.gave }

  took_alone : (readings : List ℕ) → Took (along L hand keeps) old new readings → Took L (hand old) (hand new) readings
  took_alone readings t = record { told = t.told; gave = t.gave }

  pub crash_alone : (h : List T) → CrashLeaves (along L hand keeps) old new h → CrashLeaves L (hand old) (hand new) h
  crash_alone h c = record { list = c.list; stands = c.stands.1; more = c.more; later = c.later; each = c.each; now = c.now }

module _ {T C A B O X : Type 0} (M : Meaning T X) (L : Life T C A) (hand : B → A) (keeps : B → Type 0) (sink : SinkMeaning O) (old new : B) (o o' : O) (h : List T) where
  all_along : (xs : List X) → keeps new → AnsweredAll M L sink (hand old) (hand new) o o' h xs → AnsweredAll M (along L hand keeps) sink old new o o' h xs
  all_along xs is a = record {
    turns = a.turns;
    asked_is = a.asked_is;
    fit = a.fit;
    kept = kept_along L hand keeps old new _ _ is a.kept;
    calm = a.calm;
    wrote = a.wrote;
    passed = a.passed;
    clock = took_along L hand keeps old new _ a.clock;
  }

  all_alone : (xs : List X) → AnsweredAll M (along L hand keeps) sink old new o o' h xs → AnsweredAll M L sink (hand old) (hand new) o o' h xs
  all_alone xs a = record {
    turns = a.turns;
    asked_is = a.asked_is;
    fit = a.fit;
    kept = kept_alone L hand keeps old new _ _ a.kept;
    calm = a.calm;
    wrote = a.wrote;
    passed = a.passed;
    clock = took_alone L hand keeps old new _ a.clock;
  }

  some_along : (xs : List X) (why : Ending) → keeps new → AnsweredSome M L sink (hand old) (hand new) o o' h xs why → AnsweredSome M (along L hand keeps) sink old new o o' h xs why
  some_along xs why is a = record {
    turns = a.turns;
    later = a.later;
    asked_is = a.asked_is;
    fit = a.fit;
    part = a.part;
    said = a.said;
    took = a.took;
    next = a.next;
    half = a.half;
    kept = kept_along L hand keeps old new _ _ is a.kept;
    wrote = a.wrote;
    passed = a.passed;
    clock = took_along L hand keeps old new _ a.clock;
  }

  some_alone : (xs : List X) (why : Ending) → AnsweredSome M (along L hand keeps) sink old new o o' h xs why → AnsweredSome M L sink (hand old) (hand new) o o' h xs why
  some_alone xs why a = record {
    turns = a.turns;
    later = a.later;
    asked_is = a.asked_is;
    fit = a.fit;
    part = a.part;
    said = a.said;
    took = a.took;
    next = a.next;
    half = a.half;
    kept = kept_alone L hand keeps old new _ _ a.kept;
    wrote = a.wrote;
    passed = a.passed;
    clock = took_alone L hand keeps old new _ a.clock;
  }

  did_same : (xs : List X) (r : Result (Unit {0}) Ending) → keeps new → Did M L sink (hand old) (hand new) o o' h xs r → Did M (along L hand keeps) sink old new o o' h xs r
  did_same xs (Ok u) is a = all_along xs is a
  did_same xs (Err why) is a = some_along xs why is a

  -- what the other did with these members
  pub along_did : (xs ys : List X) (r : Result (Unit {0}) Ending) → xs ≡ ys → keeps new → Did M L sink (hand old) (hand new) o o' h xs r → Did M (along L hand keeps) sink old new o o' h ys r
  along_did xs ys r same is d = subst (λ (l : List X). Did M (along L hand keeps) sink old new o o' h l r) same (did_same xs r is d)

  end_alone : (decided all : List ℕ → List X) (most : ℕ) (read more : List ℕ) (r : Result (Unit {0}) Ending) → IsEnd M (along L hand keeps) sink decided all most old new o o' h read more r
      → IsEnd M L sink decided all most (hand old) (hand new) o o' h read more r
  end_alone decided all most read more (Ok u) d = (d.0, d.1, all_alone (all read) d.2)
  end_alone decided all most read more (Err end.Read) d = (d.0, all_alone (decided read) d.1)
  end_alone decided all most read more (Err end.TooLong) d = (d.0, all_alone (decided (take most read)) d.1)
  end_alone decided all most read more (Err end.Write) d = some_alone (all (read ++ more)) end.Write d
  end_alone decided all most read more (Err end.Store) d = some_alone (all (read ++ more)) end.Store d
  end_alone decided all most read more (Err end.Full) d = some_alone (all (read ++ more)) end.Full d
  end_alone decided all most read more (Err end.Memory) d = some_alone (all (read ++ more)) end.Memory d

module _ {T C A B S O X : Type 0} (M : Meaning T X) (L : Life T C A) (hand : B → A) (keeps : B → Type 0) (fails : A → ℕ) (source : SourceMeaning S) (sink : SinkMeaning O) where
  -- the run of the other
  pub run_alone : (decided all : List ℕ → List X) (most : ℕ) (i i' : S) (old new : B) (o o' : O) (h : List T) (status : ℕ) → IsRun M (along L hand keeps) (λ b. fails (hand b)) source sink decided all most i i' old new o o' h status
      → IsRun M L fails source sink decided all most i i' (hand old) (hand new) o o' h status
  run_alone decided all most i i' old new o o' h status r = record {
    result = r.result;
    status_is = r.status_is;
    mid = r.mid;
    ran = record {
      read = r.ran.read;
      more = r.ran.more;
      was_read = r.ran.was_read;
      few = r.ran.few;
      did = end_alone M L hand keeps sink old new o r.mid h decided all most r.ran.read r.ran.more r.result r.ran.did;
    };
    ends = r.ends;
    line = r.line;
    passed = r.passed;
    done = r.done;
  }
