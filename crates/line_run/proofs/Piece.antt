-- The lines that end in a piece, one further.
use Rattle.std.proofs.Common.{◌≡◌, ℕ, ◌+◌, List, [], ◌++◌, take, drop, Some, None, Result, refl, sym, ◌∙◌, ap, subst, arith, append_assoc}
use Rattle.std.proofs.lemmas.List.{append-nil, take_all}
use Rattle.input_lines.specs.Lines.{Line, CutsAt, unless_empty, without_cr, ended_from, open_from}
use Rattle.input_lines.proofs.Cuts.{ended-next, open-next, ended-no_feed, open-no_feed, kept_ended}
use Rattle.input_lines.proofs.Pieces.{take_again}
use Rattle.line_run.specs.Life.{Meaning, Life}
use Rattle.line_run.specs.Turns.{ByLog, AnsweredAll, AnsweredSome, Causes}
use Rattle.line_run.specs.declared.ending.Ending.{Ending}
use Rattle.line_run.proofs.Runs.{none_yet, all_then, some_then, all_some, some_of}
use Rattle.news_io.specs.Sink.{SinkMeaning}

pub record PieceSoFar {T C A O : Type 0} (M : Meaning T Line) (L : Life T C A) (sink : SinkMeaning O) (longest : ℕ) (old new : A) (o o' : O) (h : List T) (begun piece line rest : List ℕ) : Type 0 where
  pub now : List ℕ
  pub done : List Line
  pub line_is : line ≡ take (longest + 2) now
  pub ended_is : ended_from longest begun piece ≡ done ++ ended_from longest now rest
  pub open_is : open_from begun piece ≡ open_from now rest
  pub all : AnsweredAll M L sink old new o o' h done

pub causes_then : (m m' m'' o o' o'' : ℕ) (r : Result (Unit {0}) Ending) → m' ≡ m → o' ≡ o → Causes m' m'' o' o'' r → Causes m m'' o o'' r
causes_then m m' m'' o o' o'' r same_m same_o c = subst (λ (k : ℕ). Causes k m'' o o'' r) same_m (subst (λ (k : ℕ). Causes m' m'' k o'' r) same_o c)

module _ {T C A O : Type 0} (M : Meaning T Line) (L : Life T C A) (sink : SinkMeaning O) (longest : ℕ) where
  pub piece_starts : (it : A) (o : O) (h : List T) (begun piece line : List ℕ) → L.stands it h → line ≡ take (longest + 2) begun → PieceSoFar M L sink longest it it o o h begun piece line piece
  piece_starts it o h begun piece line stands is = record { now = begun; done = []; line_is = is; ended_is = refl; open_is = refl; all = none_yet M L sink it o h stands }

  -- the next line, whole
  next_line : (now rest line : List ℕ) (n : ℕ) → CutsAt rest (Some n) → line ≡ take (longest + 2) (now ++ take n rest)
      → ended_from longest now rest ≡ unless_empty longest (without_cr line) ++ ended_from longest [] (drop (n + 1) rest)
  next_line now rest line n cut is =
      ap (λ (l : List ℕ). ended_from longest now l) cut.2
      ∙ ended-next longest now (take n rest) (drop (n + 1) rest) cut.1
      ∙ ap (λ (l : List Line). l ++ ended_from longest [] (drop (n + 1) rest)) (sym (kept_ended longest (now ++ take n rest)) ∙ ap (λ (l : List ℕ). unless_empty longest (without_cr l)) (sym is))

  kept_is : (now rest line kept : List ℕ) (n : ℕ) → line ≡ take (longest + 2) now → kept ≡ take (longest + 2) (line ++ take n rest) → kept ≡ take (longest + 2) (now ++ take n rest)
  kept_is now rest line kept n is more = more ∙ ap (λ (l : List ℕ). take (longest + 2) (l ++ take n rest)) is ∙ take_again (longest + 2) now (take n rest)

  pub piece_next : (old mid new : A) (o o' o'' : O) (h : List T) (begun piece line rest kept : List ℕ) (n : ℕ) → PieceSoFar M L sink longest old mid o o' h begun piece line rest
      → CutsAt rest (Some n) → kept ≡ take (longest + 2) (line ++ take n rest)
      → ((g : List T) → L.stands mid g → AnsweredAll M L sink mid new o' o'' g (unless_empty longest (without_cr kept)))
      → PieceSoFar M L sink longest old new o o'' h begun piece [] (drop (n + 1) rest)
  piece_next old mid new o o' o'' h begun piece line rest kept n p cut more f =
      let is : kept ≡ take (longest + 2) (p.now ++ take n rest) = kept_is p.now rest line kept n p.line_is more in
      record {
        now = [];
        done = p.done ++ unless_empty longest (without_cr kept);
        line_is = sym (take_all (longest + 2) [] (omega arith));
        ended_is = p.ended_is ∙ ap (λ (l : List Line). p.done ++ l) (next_line p.now rest kept n cut is) ∙ sym (append_assoc p.done (unless_empty longest (without_cr kept)) (ended_from longest [] (drop (n + 1) rest)));
        open_is = p.open_is ∙ ap (λ (l : List ℕ). open_from p.now l) cut.2 ∙ open-next p.now (take n rest) (drop (n + 1) rest) cut.1;
        all = all_then M L sink old mid new o o' o'' h p.done (unless_empty longest (without_cr kept)) p.all f;
      }

  pub piece_stops : (old mid new : A) (o o' o'' : O) (h : List T) (begun piece line rest kept : List ℕ) (n : ℕ) (why : Ending) → PieceSoFar M L sink longest old mid o o' h begun piece line rest
      → CutsAt rest (Some n) → kept ≡ take (longest + 2) (line ++ take n rest)
      → ((g : List T) → L.stands mid g → AnsweredSome M L sink mid new o' o'' g (unless_empty longest (without_cr kept)) why)
      → AnsweredSome M L sink old new o o'' h (ended_from longest begun piece) why
  piece_stops old mid new o o' o'' h begun piece line rest kept n why p cut more f =
      let is : kept ≡ take (longest + 2) (p.now ++ take n rest) = kept_is p.now rest line kept n p.line_is more in
      let later : List Line = ended_from longest [] (drop (n + 1) rest) in
      subst (λ (l : List Line). AnsweredSome M L sink old new o o'' h l why)
      (append_assoc p.done (unless_empty longest (without_cr kept)) later ∙ ap (λ (l : List Line). p.done ++ l) (sym (next_line p.now rest kept n cut is)) ∙ sym p.ended_is)
      (some_of M L sink old new o o'' h (p.done ++ unless_empty longest (without_cr kept)) later why
      (some_then M L sink old mid new o o' o'' h p.done (unless_empty longest (without_cr kept)) why p.all f))

  pub piece_memory : (old new : A) (o o' : O) (h : List T) (begun piece line rest : List ℕ) (why : Ending) → (ByLog why → ⊥) → PieceSoFar M L sink longest old new o o' h begun piece line rest
      → AnsweredSome M L sink old new o o' h (ended_from longest begun piece) why
  piece_memory old new o o' h begun piece line rest why not_log p =
      subst (λ (l : List Line). AnsweredSome M L sink old new o o' h l why) (sym p.ended_is)
      (some_of M L sink old new o o' h p.done (ended_from longest p.now rest) why (all_some M L sink old new o o' h p.done why not_log p.all))

  pub piece_ends : (old new : A) (o o' : O) (h : List T) (begun piece line rest : List ℕ) → PieceSoFar M L sink longest old new o o' h begun piece line rest → CutsAt rest None
      → AnsweredAll M L sink old new o o' h (ended_from longest begun piece)
  piece_ends old new o o' h begun piece line rest p none =
      subst (λ (l : List Line). AnsweredAll M L sink old new o o' h l)
      (sym (p.ended_is ∙ ap (λ (l : List Line). p.done ++ l) (ended-no_feed longest p.now rest none) ∙ append-nil p.done)) p.all

  pub piece_open : (old new : A) (o o' : O) (h : List T) (begun piece line rest kept : List ℕ) → PieceSoFar M L sink longest old new o o' h begun piece line rest → CutsAt rest None
      → kept ≡ take (longest + 2) (line ++ rest) → kept ≡ take (longest + 2) (open_from begun piece)
  piece_open old new o o' h begun piece line rest kept p none more =
      more ∙ ap (λ (l : List ℕ). take (longest + 2) (l ++ rest)) p.line_is ∙ take_again (longest + 2) p.now rest
      ∙ ap (λ (l : List ℕ). take (longest + 2) l) (sym (p.open_is ∙ open-no_feed p.now rest none))
