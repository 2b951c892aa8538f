-- The events of members lead from list to list, one entry at a time.
use Rattle.std.proofs.Common.{◌≡◌, ◌⊎◌, inl, inr, ℕ, ◌+◌, ◌≤◌, List, [], ◌∷◌, ◌++◌, length, Option, Some, None, refl, sym, ap, ◌∙◌, subst, arith, append_assoc, append-nil, length-append}
use Rattle.news_types.specs.declared.entry.Entry.{Entry}
use Rattle.news_types.specs.History.{History}
use Rattle.news_types.specs.Frames.{Writer}
use Rattle.news_types.specs.Calls.{Fate, IsKept, list_after}
use Rattle.news_types.specs.Server.{Server}
use Rattle.line_run.specs.Life.{Meaning}
use Rattle.line_run.specs.Turns.{Turn, after}
use Rattle.world_laws.specs.World.{World, Event, run}
use Rattle.news_room.specs.Steps.{entries}
use Rattle.program_events.specs.Events.{Input, turn_events}
use Rattle.program_events.specs.Leads.{StopsAt, IsBegunOf, Front, Lead}
use Rattle.program_events.proofs.Members.{Means, put_list}
use Rattle.program_events.proofs.Turns.{run_on}

-- ---- lists that go on

pub none_before : (first : List Entry) (h : History) → length (first ++ h) ≤ length h → first ≡ []
none_before [] h le = refl
none_before (x ∷ first) h le = absurd (omega (arith, le, length-append first h))

-- behind an entry, if one follows, a list that ends the whole is the whole, or ends what was before
split : (o : Option Entry) (old part later : List Entry) → entries o ++ old ≡ later ++ part → (entries o ++ old ≡ part) ⊎ ((rest : List Entry) × (old ≡ rest ++ part))
split None old part later is = inr (later, is)
split (Some e) old part [] is = inl is
split (Some e) old part (x ∷ later) is = let rest : old ≡ later ++ part = cc in inr (later, rest)

-- ---- events that lead to lists

pub lead_none : (write : Writer) (w : World) → Lead write w [] w.server.list
lead_none write w = record {
  list = refl;
  each = λ later part first behind within.
      let long : length part ≡ length first + length w.server.list = ap length behind ∙ length-append first w.server.list in
      let whole : length w.server.list ≡ length later + length part = ap length within ∙ length-append later part in
      let none : first ≡ [] = none_before first w.server.list (omega (arith, long, whole, length-append first w.server.list)) in
      record { front = []; rest = []; events_are = refl; begun = []; is_begun = tt; list = sym (behind ∙ ap (λ (l : List Entry). l ++ w.server.list) none) };
}

-- all of the events are a front
whole_front : (write : Writer) (w : World) (events : List Event) (part : History) → (run write events w).server.list ≡ part → Front write w events part
whole_front write w events part is = record {
  front = events;
  rest = [];
  events_are = sym (append-nil events);
  begun = [];
  is_begun = tt;
  list = subst (λ (l : List Event). (run write l w).server.list ≡ part) (sym (append-nil events)) is;
}

still_begun : (rest begun more : List Event) → IsBegunOf rest begun → IsBegunOf (rest ++ more) begun
still_begun rest [] more b = tt
still_begun [] (e ∷ begun) more b = absurd b
still_begun (x ∷ rest) (e ∷ begun) more b = b

-- so is a front of the first of them
front_more : (write : Writer) (w : World) (events more : List Event) (part : History) → Front write w events part → Front write w (events ++ more) part
front_more write w events more part f = record {
  front = f.front;
  rest = f.rest ++ more;
  events_are = ap (λ (l : List Event). l ++ more) f.events_are ∙ append_assoc f.front f.rest more;
  begun = f.begun;
  is_begun = still_begun f.rest f.begun more f.is_begun;
  list = f.list;
}

pub lead_more : (write : Writer) (w : World) (events more : List Event) (g : History) (o : Option Entry) → Lead write w events g → (run write (events ++ more) w).server.list ≡ entries o ++ g → Lead write w (events ++ more) (entries o ++ g)
lead_more write w events more g o lead is = record {
  list = is;
  each = λ later part first behind within.
      elim (split o g part later within) [
        | inl whole ↦ whole_front write w (events ++ more) part (is ∙ whole)
        | inr old ↦ front_more write w events more part (lead.each old.0 part first behind old.1)
      ];
}

-- one event more, which may stop behind the first of its two entries
pub lead_two : (write : Writer) (w : World) (events : List Event) (whole stopped : Event) (g : History) (one two : Option Entry) → Lead write w events g → StopsAt whole stopped → (run write (events ++ stopped ∷ []) w).server.list ≡ entries one ++ g
    → (run write (events ++ whole ∷ []) w).server.list ≡ entries two ++ (entries one ++ g) → Lead write w (events ++ whole ∷ []) (entries two ++ (entries one ++ g))
lead_two write w events whole stopped g one two lead stops mid is = record {
  list = is;
  each = λ later part first behind within.
      elim (split two (entries one ++ g) part later within) [
        | inl all ↦ whole_front write w (events ++ whole ∷ []) part (is ∙ all)
        | inr old ↦ elim (split one g part old.0 old.1) [
          | inl half ↦ record { front = events; rest = whole ∷ []; events_are = refl; begun = stopped ∷ []; is_begun = (stops, refl); list = mid ∙ half }
          | inr older ↦ front_more write w events (whole ∷ []) part (lead.each older.0 part first behind older.1)
        ]
      ];
}

module _ {X : Type 0} (M : Meaning Entry X) (input : Input X) (means : Means M input) where
  -- one more member, of any fate
  pub one_leads : (write : Writer) (w : World) (events : List Event) (g : History) (x : X) (at : ℕ) (fate : Fate) (kept : Option Entry) → Lead write w events g
      → ((h : History) → list_after h (means.next g x at) fate ≡ entries kept ++ h) → Lead write w (events ++ input.events x at fate) (entries kept ++ g)
  one_leads write w events g x at fate kept lead fares =
      let v : World = run write events w in
      lead_more write w events (input.events x at fate) g kept lead (
      ap (λ (u : World). u.server.list) (run_on write events (input.events x at fate) w)
      ∙ ap (λ (c : Server). c.list) (means.server write v x at fate)
      ∙ ap (λ (h : History). list_after h (means.next h x at) fate) lead.list
      ∙ fares g
      )

  pub turns_lead : (write : Writer) (w : World) (h : History) → w.server.list ≡ h → (ts : List (Turn X)) → Lead write w (turn_events input ts) (after M h ts)
  turns_lead write w h is [] = subst (Lead write w []) is (lead_none write w)
  turns_lead write w h is (t ∷ ts) =
      let g : History = after M h ts in
      let o : Option Entry = means.next g t.line t.at in
      subst (λ (es : List Entry). Lead write w (turn_events input ts ++ input.events t.line t.at IsKept) (es ++ g)) (sym (means.adds g t.line t.at))
      (one_leads write w (turn_events input ts) g t.line t.at IsKept o (turns_lead write w h is ts) (λ k. put_list k o))
