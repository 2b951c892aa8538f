-- What the events of members do to a world, one behind the other.
use Rattle.std.proofs.Common.{◌≡◌, ◌⊎◌, inl, inr, ℕ, ◌<◌, false, List, [], ◌∷◌, ◌++◌, length, Option, Some, refl, sym, ap, ◌∙◌, subst, arith}
use Rattle.news_types.specs.declared.entry.Entry.{Entry}
use Rattle.news_types.specs.History.{History}
use Rattle.news_types.specs.Frames.{Writer}
use Rattle.news_types.specs.Calls.{Fate, IsKept, list_after}
use Rattle.news_types.specs.Server.{Server}
use Rattle.line_run.specs.Life.{Meaning}
use Rattle.line_run.specs.Turns as line
use Rattle.line_run.specs.Turns.{after}
use Rattle.world_laws.specs.World.{World, Event, happens, run}
use Rattle.program_run.specs.Members.{Input, Turn, asked, turn_events, turn_readings, texts, limit_of, Adds, Fits, AllFit}
use Rattle.program_run.proofs.Means.{Means, put_list, put_moves, kept_next, not_past}

-- events behind events
pub run_on : (write : Writer) (first second : List Event) (w : World) → run write (first ++ second) w ≡ run write second (run write first w)
run_on write [] second w = refl
run_on write (e ∷ first) second w = run_on write first second (happens write w e)

-- ---- turns of a run are turns of an input

abbrev pub turn_of : {X : Type 0} → line.Turn X → Turn X
turn_of t = record { member = t.line; at = t.at }

abbrev pub turns_of : {X : Type 0} → List (line.Turn X) → List (Turn X)
turns_of [] = []
turns_of (t ∷ ts) = turn_of t ∷ turns_of ts

pub asked_of : {X : Type 0} (ts : List (line.Turn X)) → line.asked ts ≡ asked (turns_of ts)
asked_of [] = refl
asked_of {X = X} (t ∷ ts) = ap (λ (l : List X). l ++ t.line ∷ []) (asked_of ts)

-- ---- what they do

abbrev pub Moves : World → World → Type 0
Moves w v = (v.server ≡ w.server) ⊎ ((length w.server.list < length v.server.list) × (v.server.doubt ≡ []))

moves_on : (w v u : World) → Moves w v → Moves v u → Moves w u
moves_on w v u (inl same) (inl still) = inl (still ∙ same)
moves_on w v u (inl same) (inr more) = inr (subst (λ (c : Server). length c.list < length u.server.list) same more.0, more.1)
moves_on w v u (inr more) (inl still) = inr (subst (λ (c : Server). length w.server.list < length c.list) (sym still) more.0, ap (λ (c : Server). c.doubt) still ∙ more.1)
moves_on w v u (inr more) (inr again) = inr (omega (arith, more.0, again.0), again.1)

module _ {X : Type 0} (M : Meaning Entry X) (input : Input X) (means : Means M input) where
  -- the world behind the events of members that were answered
  abbrev pub behind : Writer → World → List (line.Turn X) → World
  behind write w ts = run write (turn_events input (turns_of ts)) w

  pub turn_more : (write : Writer) (w : World) (t : line.Turn X) (ts : List (line.Turn X)) → behind write w (t ∷ ts) ≡ run write (input.events t.line t.at IsKept) (behind write w ts)
  turn_more write w t ts = run_on write (turn_events input (turns_of ts)) (input.events t.line t.at IsKept) w

  -- the list behind the events of a member of any fate
  pub list_of : (write : Writer) (w : World) (x : X) (at : ℕ) (fate : Fate) → (run write (input.events x at fate) w).server.list ≡ list_after w.server.list (means.next w.server.list x at) fate
  list_of write w x at fate = ap (λ (c : Server). c.list) (means.server write w x at fate)

  one_list : (write : Writer) (w : World) (x : X) (at : ℕ) → (run write (input.events x at IsKept) w).server.list ≡ (M w.server.list x at).adds ++ w.server.list
  one_list write w x at =
      let o : Option Entry = means.next w.server.list x at in
      list_of write w x at IsKept ∙ put_list w.server.list o ∙ ap (λ (es : List Entry). es ++ w.server.list) (sym (means.adds w.server.list x at))

  pub turns_list : (write : Writer) (w : World) (ts : List (line.Turn X)) → (behind write w ts).server.list ≡ after M w.server.list ts
  turns_list write w [] = refl
  turns_list write w (t ∷ ts) =
      ap (λ (v : World). v.server.list) (turn_more write w t ts)
      ∙ one_list write (behind write w ts) t.line t.at
      ∙ ap (λ (h : History). (M h t.line t.at).adds ++ h) (turns_list write w ts)

  one_moves : (write : Writer) (w : World) (x : X) (at : ℕ) → Moves w (run write (input.events x at IsKept) w)
  one_moves write w x at =
      subst (λ (c : Server). (c ≡ w.server) ⊎ ((length w.server.list < length c.list) × (c.doubt ≡ []))) (sym (means.server write w x at IsKept)) (put_moves w.server (means.next w.server.list x at))

  pub turns_move : (write : Writer) (w : World) (ts : List (line.Turn X)) → Moves w (behind write w ts)
  turns_move write w [] = inl refl
  turns_move write w (t ∷ ts) =
      subst (Moves w) (sym (turn_more write w t ts)) (moves_on w (behind write w ts) (run write (input.events t.line t.at IsKept) (behind write w ts)) (turns_move write w ts) (one_moves write (behind write w ts) t.line t.at))

  pub turns_text : (write : Writer) (w : World) (ts : List (line.Turn X)) → line.texts M w.server.list ts ≡ texts input write w (turns_of ts)
  turns_text write w [] = refl
  turns_text write w (t ∷ ts) =
      let h : History = after M w.server.list ts in
      let one : (M h t.line t.at).text ≡ input.text (behind write w (t ∷ ts)) t.line =
      ap (λ (g : History). (M g t.line t.at).text) (sym (turns_list write w ts))
      ∙ means.text write (behind write w ts) t.line t.at
      ∙ ap (λ (u : World). input.text u t.line) (sym (turn_more write w t ts)) in
      ap (λ (front : List ℕ). front ++ ((M h t.line t.at).text ++ 10 ∷ [])) (turns_text write w ts)
      ∙ ap (λ (text : List ℕ). texts input write w (turns_of ts) ++ (text ++ 10 ∷ [])) one

  pub turns_took : (h : History) (ts : List (line.Turn X)) → line.readings M h ts ≡ turn_readings input (turns_of ts)
  turns_took h [] = refl
  turns_took h (t ∷ ts) =
      ap (λ (l : List ℕ). l ++ (M (after M h ts) t.line t.at).took) (turns_took h ts)
      ∙ ap (λ (l : List ℕ). turn_readings input (turns_of ts) ++ l) (means.took (after M h ts) t.line t.at)

  -- the entry that a member adds is the one that follows
  pub adds_next : (write : Writer) (w : World) (x : X) (at : ℕ) (e : Entry) → Adds write w (λ fate. input.events x at fate) e → means.next w.server.list x at ≡ Some e
  adds_next write w x at e is = kept_next w.server.list (means.next w.server.list x at) e (sym (list_of write w x at IsKept) ∙ is)

  one_fits : (write : Writer) (v : World) (g : History) (x : X) (at : ℕ) → v.server.list ≡ g → (M g x at).passes ≡ false → Fits (λ e. limit_of e.act) write v (λ fate. input.events x at fate)
  one_fits write v g x at is fits e adds =
      let here : (M v.server.list x at).passes ≡ false = ap (λ (h : History). (M h x at).passes) is ∙ fits in
      not_past (means.next v.server.list x at) v.server.list e (adds_next write v x at e adds) (sym (means.passes v.server.list x at) ∙ here)

  pub turns_fit : (write : Writer) (w : World) (ts : List (line.Turn X)) → line.AllFit M w.server.list ts → AllFit input write w (turns_of ts)
  turns_fit write w [] fit = tt
  turns_fit write w (t ∷ ts) fit = (turns_fit write w ts fit.0, one_fits write (behind write w ts) (after M w.server.list ts) t.line t.at (turns_list write w ts) fit.1)
