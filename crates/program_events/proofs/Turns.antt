-- What the events of members do to a world, one behind the other.
use Rattle.std.proofs.Common.{◌≡◌, ◌⊎◌, inl, inr, ℕ, ◌<◌, List, [], ◌∷◌, ◌++◌, length, Option, Some, refl, sym, ap, ◌∙◌, subst, arith}
use Rattle.std.specs.List.{slice_get}
use Rattle.news_types.specs.declared.entry.Entry.{Entry}
use Rattle.news_types.specs.History.{History}
use Rattle.news_types.specs.Frames.{Writer}
use Rattle.news_types.specs.Calls.{Fate, IsKept}
use Rattle.news_types.specs.Server.{Server}
use Rattle.line_run.specs.Life.{Meaning}
use Rattle.line_run.specs.Turns.{Turn, after, texts, readings}
use Rattle.world_laws.specs.World.{World, Event, SentReceipt, Forges, receipt_comes, happens, run}
use Rattle.program_events.specs.Events.{Input, line_input, turn_events, turn_readings, world_texts}
use Rattle.program_events.specs.Turns.{OnlyServer, TurnsAreEvents}
use Rattle.program_events.proofs.Members.{Means, put_list, put_moves}
use Rattle.program_events.proofs.Lines.{line_means}

-- events behind events
pub run_on : (write : Writer) (first second : List Event) (w : World) → run write (first ++ second) w ≡ run write second (run write first w)
run_on write [] second w = refl
run_on write (e ∷ first) second w = run_on write first second (happens write w e)

abbrev pub Moves : World → World → Type 0
Moves w v = (v.server ≡ w.server) ⊎ ((length w.server.list < length v.server.list) × (v.server.doubt ≡ []))

moves_on : (w v u : World) → Moves w v → Moves v u → Moves w u
moves_on w v u (inl same) (inl still) = inl (still ∙ same)
moves_on w v u (inl same) (inr more) = inr (subst (λ (c : Server). length c.list < length u.server.list) same more.0, more.1)
moves_on w v u (inr more) (inl still) = inr (subst (λ (c : Server). length w.server.list < length c.list) (sym still) more.0, ap (λ (c : Server). c.doubt) still ∙ more.1)
moves_on w v u (inr more) (inr again) = inr (omega (arith, more.0, again.0), again.1)

only_on : (w v u : World) → OnlyServer w v → OnlyServer v u → OnlyServer w u
only_on w v u first second = record { frames = second.frames ∙ first.frames; receipts = second.receipts ∙ first.receipts; receivers = second.receivers ∙ first.receivers }

module _ {X : Type 0} (M : Meaning Entry X) (input : Input X) (means : Means M input) where
  -- the world behind the events of members that were answered
  abbrev pub behind : Writer → World → List (Turn X) → World
  behind write w ts = run write (turn_events input ts) w

  pub turn_more : (write : Writer) (w : World) (t : Turn X) (ts : List (Turn X)) → behind write w (t ∷ ts) ≡ run write (input.events t.line t.at IsKept) (behind write w ts)
  turn_more write w t ts = run_on write (turn_events input ts) (input.events t.line t.at IsKept) w

  one_list : (write : Writer) (w : World) (x : X) (at : ℕ) → (run write (input.events x at IsKept) w).server.list ≡ (M w.server.list x at).adds ++ w.server.list
  one_list write w x at =
      let o : Option Entry = means.next w.server.list x at in
      ap (λ (c : Server). c.list) (means.server write w x at IsKept) ∙ put_list w.server.list o ∙ ap (λ (es : List Entry). es ++ w.server.list) (sym (means.adds w.server.list x at))

  pub turns_list : (write : Writer) (w : World) (ts : List (Turn X)) → (behind write w ts).server.list ≡ after M w.server.list ts
  turns_list write w [] = refl
  turns_list write w (t ∷ ts) =
      ap (λ (v : World). v.server.list) (turn_more write w t ts)
      ∙ one_list write (behind write w ts) t.line t.at
      ∙ ap (λ (h : History). (M h t.line t.at).adds ++ h) (turns_list write w ts)

  one_moves : (write : Writer) (w : World) (x : X) (at : ℕ) → Moves w (run write (input.events x at IsKept) w)
  one_moves write w x at =
      subst (λ (c : Server). (c ≡ w.server) ⊎ ((length w.server.list < length c.list) × (c.doubt ≡ []))) (sym (means.server write w x at IsKept)) (put_moves w.server (means.next w.server.list x at))

  pub turns_move : (write : Writer) (w : World) (ts : List (Turn X)) → Moves w (behind write w ts)
  turns_move write w [] = inl refl
  turns_move write w (t ∷ ts) =
      subst (Moves w) (sym (turn_more write w t ts)) (moves_on w (behind write w ts) (run write (input.events t.line t.at IsKept) (behind write w ts)) (turns_move write w ts) (one_moves write (behind write w ts) t.line t.at))

  pub turns_text : (write : Writer) (w : World) (ts : List (Turn X)) → texts M w.server.list ts ≡ world_texts input write w ts
  turns_text write w [] = refl
  turns_text write w (t ∷ ts) =
      let h : History = after M w.server.list ts in
      let one : (M h t.line t.at).text ≡ input.text (behind write w (t ∷ ts)) t.line =
      ap (λ (g : History). (M g t.line t.at).text) (sym (turns_list write w ts))
      ∙ means.text write (behind write w ts) t.line t.at
      ∙ ap (λ (u : World). input.text u t.line) (sym (turn_more write w t ts)) in
      ap (λ (front : List ℕ). front ++ ((M h t.line t.at).text ++ 10 ∷ [])) (turns_text write w ts)
      ∙ ap (λ (text : List ℕ). world_texts input write w ts ++ (text ++ 10 ∷ [])) one

  pub turns_took : (h : History) (ts : List (Turn X)) → readings M h ts ≡ turn_readings input ts
  turns_took h [] = refl
  turns_took h (t ∷ ts) =
      ap (λ (l : List ℕ). l ++ (M (after M h ts) t.line t.at).took) (turns_took h ts)
      ∙ ap (λ (l : List ℕ). turn_readings input ts ++ l) (means.took (after M h ts) t.line t.at)

  pub turns_only : (write : Writer) (w : World) (ts : List (Turn X)) → OnlyServer w (behind write w ts)
  turns_only write w [] = record { frames = refl; receipts = refl; receivers = refl }
  turns_only write w (t ∷ ts) =
      subst (OnlyServer w) (sym (turn_more write w t ts))
      (only_on w (behind write w ts) (run write (input.events t.line t.at IsKept) (behind write w ts)) (turns_only write w ts) (means.only write (behind write w ts) t.line t.at IsKept))

sent_is : (write : Writer) (w : World) (reading : ℕ) (fate : Fate) (receipt : SentReceipt) (found : Option SentReceipt) → found ≡ Some receipt
    → receipt_comes write w reading fate found ≡ happens write w (Forges receipt.from receipt.count reading fate)
sent_is write w reading fate receipt found is = ap (receipt_comes write w reading fate) is

pub turns_are_events : TurnsAreEvents
turns_are_events = record {
  list = λ write start w turns. turns_list _ line_input (line_means start) write w turns;
  doubt = λ write w turns. turns_move _ line_input (line_means 65) write w turns;
  answers = λ write start w turns. turns_text _ line_input (line_means start) write w turns;
  moments = λ start h turns. turns_took _ line_input (line_means start) h turns;
  beside = λ write w turns. turns_only _ line_input (line_means 65) write w turns;
  sent = λ write w which reading fate receipt is. sent_is write w reading fate receipt (slice_get w.receipts which) is;
}
