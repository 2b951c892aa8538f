-- Each move keeps the rule.
use Rattle.std.proofs.Common.{◌≡◌, ℕ, zero, suc, ◌+◌, ◌%◌, ◌<◌, ◌≤◌, ◌≢◌, ◌⊎◌, eqb, List, [], ◌∷◌, ◌++◌, length, get_or, set, subst, refl, ap, sym, ◌∙◌, ⊎_elim, arith, Option, Some}
use Rattle.std.specs.Prelude.{All}
use mathlib.Core.Logic.{dite}
use mathlib.Core.Option.{Option as Maybe, none, some, some-injective, some-ne-none}
use mathlib.Core.List.{IsPrefix}
use native.Mathlib.Decide.{ℕ_discrete, dec_le}
use lib.ListN.{get_elem?}
use lib.Seq.{set-get_or}
use prog.Atomic.{either}
use Rattle.atomic_table.specs.Table.{State, step, Act, keeps, takes, gives, Valid, carried_after, stepped, opening, Allows, Splits, Joins}
use Rattle.atomic_table.proofs.Lists.{at_set, set_else, set_again, set_here, at_snoc, at_longer, exchanged}
use Rattle.news_types.specs.declared.entry.Entry.{Entry}
use Rattle.room_lock.specs.declared.view.Call.{Call}
use Rattle.room_lock.specs.declared.view.View.{View}
use Rattle.room_lock.specs.Calls.{InOrder, AllClear, merged, longer}
use Rattle.room_lock.specs.Views.{rank, unmet, blank, waiting, turning, resting, call, counted, newcomer, together}
use Rattle.room_lock.specs.Rules.{Knows, Fits, Apart, Sat, drew, counted_in, passed, recalled, looked, Kept}
use Rattle.room_lock.proofs.Fronts.{prefix_self, prefix_trans, prefix_none, prefix_length}
use Rattle.room_lock.proofs.Calls.{order_wider, order_more, clear_none, clear_nothing, clear_push, clear_pushed, all_merged, clear_merged, order_merged, longer_one}

set_there : {A : Type 0} (l : List A) (i : ℕ) (a b : A) → get_elem? l i ≡ some b → get_elem? (set l i a) i ≡ some a
set_there [] i a b e = absurd (some-ne-none b (sym e))
set_there (x ∷ xs) zero a b e = refl
set_there (x ∷ xs) (suc i) a b e = set_there xs i a b e

-- a fact of all views, once one of them has changed
each_set : (vs : List View) (id : ℕ) (w : View) (P : View → Type 0) → ((j : ℕ) (u : View) → get_elem? vs j ≡ some u → j ≢ id → P u) → P w
    → (j : ℕ) (u : View) → get_elem? (set vs id w) j ≡ some u → P u
each_set vs id w P other mine j u e = ⊎_elim (λ t. subst P t.1 mine) (λ t. other j u t.1 t.0) (at_set vs id j w u e)

abbrev AllApart : List View → Type 0
AllApart vs = (i j : ℕ) (v w : View) → get_elem? vs i ≡ some v → get_elem? vs j ≡ some w → i ≢ j → Apart v w

pairs_set : (vs : List View) (id : ℕ) (w : View) → AllApart vs → ((j : ℕ) (u : View) → get_elem? vs j ≡ some u → j ≢ id → Apart w u × Apart u w) → AllApart (set vs id w)
pairs_set vs id w old mine i j u x ei ej ne =
    ⊎_elim
    (λ ti. ⊎_elim (λ tj. absurd (ne (ti.0 ∙ sym tj.0))) (λ tj. subst (λ y. Apart y x) ti.1 (mine j x tj.1 tj.0).0) (at_set vs id j w x ej))
    (λ ti. ⊎_elim (λ tj. subst (λ y. Apart u y) tj.1 (mine i u ti.1 ti.0).1) (λ tj. old i j u x ti.1 tj.1 ne) (at_set vs id j w x ej))
    (at_set vs id i w u ei)

abbrev NoneTurns : List View → Type 0
NoneTurns vs = (j : ℕ) (v : View) → get_elem? vs j ≡ some v → rank v.stage < 2

-- where no view has its turn, once one that had none has changed, none had it before
none_turned : (vs : List View) (id : ℕ) (v w : View) → get_elem? vs id ≡ some v → rank v.stage < 2 → NoneTurns (set vs id w) → NoneTurns vs
none_turned vs id v w me idle nobody j u at = dite (ℕ_discrete j id)
    (λ e. omega (arith, ap (λ (y : View). rank y.stage) (some-injective v u (sym me ∙ (ap (λ k. get_elem? vs k) (sym e) ∙ at)))))
    (λ ne. nobody j u (set_else vs id j w ne ∙ at))

-- a view without a ticket and without calls is apart from any
apart_idle : (v w : View) → rank v.stage ≡ 0 → v.calls ≡ [] → Apart v w × Apart w v
apart_idle v w idle none-yet = (
  record { tickets = λ a b. absurd (omega arith); clear = subst (λ cs. AllClear cs w.calls) (sym none-yet) (clear_nothing w.calls) },
  record { tickets = λ a b. absurd (omega arith); clear = subst (λ cs. AllClear w.calls cs) (sym none-yet) (clear_none w.calls) },
)

knows_unmet : Knows unmet
knows_unmet = record { one = prefix_none []; other = prefix_none []; clear = clear_nothing [] }

-- a pass that has seen nothing, done nothing and met nobody fits every history
fits_blank : (h : List Entry) (next served : ℕ) → Fits h next served blank
fits_blank h next served = record { begins = prefix_none h; order = omega arith; waits = λ r. absurd (omega arith); turn = λ r. absurd (omega arith); knows = knows_unmet }

first : (j : ℕ) (u : View) → get_elem? (blank ∷ []) j ≡ some u → blank ≡ u
first zero u e = some-injective blank u e
first (suc j) u e = absurd (some-ne-none u (sym e))

zeroth : (j : ℕ) (u : View) → get_elem? (blank ∷ []) j ≡ some u → j ≡ 0
zeroth zero u e = refl
zeroth (suc j) u e = absurd (some-ne-none u (sym e))

module _ {T : Type 0} (stands : T → List Entry → Type 0) where
  abbrev St : Type 0
  St = State (Option T) View

  abbrev table : List ℕ → List (Maybe (Option T)) → List View → St
  table ws hs vs = record { words = ws; homes = hs; views = vs }

  abbrev Holds : St → Type 0
  Holds s = Kept stands s

  -- the table as it is made
  pub opens : (room : T) → stands room [] → Holds (opening (0 ∷ 0 ∷ 0 ∷ []) (Some room ∷ []) blank)
  opens room good = record {
    history = [];
    next = 0;
    served = 0;
    words = refl;
    queue = omega arith;
    small = omega arith;
    home = λ nobody. (room, refl, good);
    each = λ j u at. subst (Fits [] 0 0) (first j u at) (fits_blank [] 0 0);
    pairs = λ i j u x ei ej ne. absurd (ne (zeroth i u ei ∙ sym (zeroth j x ej)));
  }

  -- a step that changes nothing
  stays : (s : St) → Holds s → (i id : ℕ) (v : View) → get_elem? s.views id ≡ some v → Holds (table (set s.words i (get_or s.words i 0)) s.homes (set s.views id v))
  stays s o i id v me = subst (λ ws. Holds (table ws s.homes (set s.views id v))) (sym (set-get_or s.words i 0)) (subst (λ vs. Holds (table s.words s.homes vs)) (sym (set_again s.views id v me)) o)

  abbrev Goes : St → ℕ → ℕ → Sat T → (ℕ → Sat T → Type 0) → ℕ → Type 0
  Goes s i id m then k = (w : View) × (a : Act (Option T)) × Valid s.homes m.1 a × Holds (stepped s i k id m.1 w a) × then (get_or s.words i 0) (w, carried_after m.1 a)

  -- a seat that has a ticket is the only one with it
  only : (s : St) (o : Holds s) (id : ℕ) (v : View) → get_elem? s.views id ≡ some v → 0 < rank v.stage → (j : ℕ) (u : View) → get_elem? s.views j ≡ some u → j ≢ id → 0 < rank u.stage → u.ticket ≢ v.ticket
  only s o id v me has j u at ne some-ticket = (o.pairs j id u v at me ne).tickets some-ticket has

  -- beside a seat whose ticket is served no other has its turn
  alone : (s : St) (o : Holds s) (id : ℕ) (v : View) → get_elem? s.views id ≡ some v → 0 < rank v.stage → v.ticket ≡ o.served → (j : ℕ) (u : View) → get_elem? s.views j ≡ some u → j ≢ id → 1 < rank u.stage → {X : Type 0} → X
  alone s o id v me has mine j u at ne turn = absurd (only s o id v me has j u at ne (omega arith) (((o.each j u at).turn turn).0 ∙ sym mine))

  -- draw: the word becomes one more only where it was still the number read
  pub draws : (n id : ℕ) (m : Sat T) (old new : ℕ) → rank m.0.stage ≡ 0 → new ≡ old + 1 → new < 18446744073709551616 → Allows Holds n id m 0 (λ x. either (eqb x old) new x) (drew (step n 0 old new none) m)
  draws n id m old new idle more small s o wide me _ =
      let G = Goes s 0 id m (drew (step n 0 old new none) m) in
      let r : ℕ = get_or s.words 0 0 in
      let f = o.each id m.0 me in
      let is : r ≡ o.next = ap (λ ws. get_or ws 0 0) o.words in
      let w : View = waiting m.0 r in
      exchanged r old new G
      (λ hit. (
        w,
        keeps,
        tt,
        record {
          history = o.history;
          next = new;
          served = o.served;
          words = ap (λ ws. set ws 0 new) o.words;
          queue = omega (arith, o.queue);
          small = small;
          home = λ nobody. o.home (none_turned s.views id m.0 w me (omega arith) nobody);
          each = each_set s.views id w (Fits o.history new o.served)
              (λ j u at ne. let x = o.each j u at in record { begins = x.begins; order = x.order; waits = λ h. let y = x.waits h in let y₁ = y.1 in (y.0, omega arith); turn = x.turn; knows = x.knows })
              (record { begins = f.begins; order = f.order; waits = λ h. (omega (arith, o.queue), omega arith); turn = λ h. absurd (omega arith); knows = f.knows });
          pairs = pairs_set s.views id w o.pairs (λ j u at ne. let x = o.each j u at in (
            record { tickets = λ a b. λ e. let y = x.waits b in omega (arith, y.1); clear = (o.pairs id j m.0 u me at (λ e. ne (sym e))).clear },
            record { tickets = λ a b. λ e. let y = x.waits a in omega (arith, y.1); clear = (o.pairs j id u m.0 at me ne).clear },
          ));
        },
        ((λ _. refl), λ miss. absurd (miss hit)),
      ))
      (λ miss. (m.0, keeps, tt, stays s o 0 id m.0 me, ((λ hit. absurd (miss hit)), λ _. refl)))

  -- look, and take where the ticket is served: no other seat has its turn, so the value is in the slot
  pub looks : (told : T → List Entry → Type 0) → ((room : T) (h : List Entry) → stands room h → told room h) → (n id : ℕ) (m : Sat T) → rank m.0.stage ≡ 1 → Allows Holds n id m 1 (λ x. x) (looked told (step n 1 0 0 none) m)
  looks told tells n id m waits s o wide me _ =
      let r : ℕ = get_or s.words 1 0 in
      let f = o.each id m.0 me in
      let is : r ≡ o.served = ap (λ ws. get_or ws 1 0) o.words in
      let h : List Entry = o.history in
      dite (ℕ_discrete r m.0.ticket)
      (λ yes.
      let mine : m.0.ticket ≡ o.served = sym yes ∙ is in
      let w : View = turning m.0 h in
      let home = o.home (λ j u at. dite (ℕ_discrete j id)
      (λ e. omega (arith, ap (λ (y : View). rank y.stage) (some-injective m.0 u (sym me ∙ (ap (λ k. get_elem? s.views k) (sym e) ∙ at)))))
      (λ ne. dite (dec_le 2 (rank u.stage)) (λ turn. alone s o id m.0 me (omega arith) mine j u at ne (omega arith)) (λ not. omega arith))) in (
        w,
        takes 0 (Some home.0),
        home.1,
        record {
          history = h;
          next = o.next;
          served = o.served;
          words = set-get_or s.words 1 0 ∙ o.words;
          queue = o.queue;
          small = o.small;
          home = λ nobody. absurd (let x = nobody id w (set_there s.views id w m.0 me) in omega arith);
          each = each_set s.views id w (Fits h o.next o.served) (λ j u at ne. o.each j u at)
              (record { begins = prefix_self h; order = order_wider 0 m.0.calls (length m.0.front) (length h) f.order (prefix_length m.0.front h f.begins); waits = λ _. f.waits (omega arith); turn = λ _. (mine, refl); knows = f.knows });
          pairs = pairs_set s.views id w o.pairs (λ j u at ne. let x = o.pairs id j m.0 u me at (λ e. ne (sym e)) in let y = o.pairs j id u m.0 at me ne in (
            record { tickets = λ a b. x.tickets (omega arith) b; clear = x.clear },
            record { tickets = λ a b. y.tickets a (omega arith); clear = y.clear },
          ));
        },
        ((λ _. (home.0, h, refl, tells home.0 h home.2, f.begins)), λ miss. absurd (miss yes)),
      ))
      (λ miss. (m.0, keeps, tt, stays s o 1 id m.0 me, ((λ hit. absurd (miss hit)), λ _. refl)))

  -- count: the seat that has its turn has seen the whole history, and only it makes it longer
  pub counts : (n id : ℕ) (m : Sat T) (holds : List Entry → Type 0) (before after : ℕ × ℕ) (k : ℕ) (g : List Entry) → rank m.0.stage ≡ 2 → holds g → IsPrefix m.0.front g → length m.0.front + k ≡ length g → length g < 18446744073709551616
      → Allows Holds n id m 2 (λ x. (x + k) % 18446744073709551616) (counted_in holds before after (step n 2 k 0 none) m)
  counts n id m holds before after k g turn good begins long small s o wide me _ =
      let v : View = m.0 in
      let f = o.each id v me in
      let mine : v.ticket ≡ o.served = (f.turn (omega arith)).0 in
      let whole : v.front ≡ o.history = (f.turn (omega arith)).1 in
      let wider : IsPrefix o.history g = subst (λ xs. IsPrefix xs g) whole begins in
      let more : length v.front ≤ length g = prefix_length v.front g begins in
      let c : Call = call (length v.front) (length g) before after in
      let w : View = counted v g before after in
      let r : get_or s.words 2 0 ≡ length v.front = ap (λ ws. get_or ws 2 0) o.words ∙ ap length (sym whole) in
      let sum : (get_or s.words 2 0 + k) % 18446744073709551616 ≡ length g = omega arith in
      let ordered : InOrder 0 w.calls (length g) = order_more 0 v.calls (length v.front) c (length g) f.order (omega arith) more (omega arith) in (
        w,
        keeps,
        tt,
        record {
          history = g;
          next = o.next;
          served = o.served;
          words = ap (λ ws. set ws 2 ((get_or s.words 2 0 + k) % 18446744073709551616)) o.words ∙ ap (λ (x : ℕ). o.next ∷ o.served ∷ x ∷ []) sum;
          queue = o.queue;
          small = o.small;
          home = λ nobody. absurd (let x = nobody id w (set_there s.views id w v me) in omega arith);
          each = each_set s.views id w (Fits g o.next o.served)
              (λ j u at ne. let x = o.each j u at in record { begins = prefix_trans u.front o.history g x.begins wider; order = x.order; waits = x.waits; turn = λ t. alone s o id v me (omega arith) mine j u at ne t; knows = x.knows })
              (record { begins = prefix_self g; order = ordered; waits = λ _. f.waits (omega arith); turn = λ _. (mine, refl); knows = f.knows });
          pairs = pairs_set s.views id w o.pairs (λ j u at ne. let x = o.pairs id j v u me at (λ e. ne (sym e)) in let y = o.pairs j id u v at me ne in let z = o.each j u at in
              let short : length u.front ≤ length v.front = subst (λ xs. length u.front ≤ length xs) (sym whole) (prefix_length u.front o.history z.begins) in (
                record { tickets = λ a b. x.tickets (omega arith) b; clear = clear_pushed v.calls u.calls (length u.front) c x.clear z.order short },
                record { tickets = λ a b. y.tickets a (omega arith); clear = clear_push u.calls v.calls (length u.front) c y.clear z.order short },
              ));
        },
        (g, good, refl, ordered),
      )

  -- put back and pass on: the value stands for the history, so the next may take it
  passes-at : (n id : ℕ) (m : Sat T) (room : T) (more : List (ℕ × Option T)) → 0 < n → m.1 ≡ (0, Some room) ∷ more → rank m.0.stage ≡ 2 → stands room m.0.front → (v : View) → m ≡ (v, (0, Some room) ∷ more)
      → Allows Holds n id (v, (0, Some room) ∷ more) 1 (λ x. (x + 1) % 18446744073709551616) (passed (step n 1 1 0 none) (v, (0, Some room) ∷ more))
  passes-at n id m room more some-slot has turn good v is s o wide me _ =
      let stage : rank v.stage ≡ 2 = ap (λ (x : Sat T). rank x.0.stage) (sym is) ∙ turn in
      let f = o.each id v me in
      let mine : v.ticket ≡ o.served = (f.turn (omega arith)).0 in
      let whole : v.front ≡ o.history = (f.turn (omega arith)).1 in
      let own = f.waits (omega arith) in
      let last : v.ticket < o.next = own.1 in
      let small : o.next < 18446744073709551616 = o.small in
      let w : View = resting v in
      let fit : stands room o.history = subst (stands room) whole (subst (λ (x : Sat T). stands room x.0.front) is good) in
      let r : get_or s.words 1 0 ≡ o.served = ap (λ ws. get_or ws 1 0) o.words in
      let sum : (get_or s.words 1 0 + 1) % 18446744073709551616 ≡ suc o.served = omega arith in (
        w,
        gives,
        tt,
        record {
          history = o.history;
          next = o.next;
          served = suc o.served;
          words = ap (λ ws. set ws 1 ((get_or s.words 1 0 + 1) % 18446744073709551616)) o.words ∙ ap (λ (x : ℕ). o.next ∷ x ∷ length o.history ∷ []) sum;
          queue = omega arith;
          small = small;
          home = λ nobody. (room, set_here s.homes 0 (some (Some room)) (omega arith), fit);
          each = each_set s.views id w (Fits o.history o.next (suc o.served))
              (λ j u at ne. let x = o.each j u at in record { begins = x.begins; order = x.order; waits = λ h. let y = x.waits h in let y₀ = y.0 in let not : u.ticket ≢ v.ticket = only s o id v me (omega arith) j u at ne h in (omega arith, y.1); turn = λ t. alone s o id v me (omega arith) mine j u at ne t; knows = x.knows })
              (record { begins = f.begins; order = f.order; waits = λ h. absurd (omega arith); turn = λ h. absurd (omega arith); knows = f.knows });
          pairs = pairs_set s.views id w o.pairs (λ j u at ne. let x = o.pairs id j v u me at (λ e. ne (sym e)) in let y = o.pairs j id u v at me ne in (
            record { tickets = λ a b. absurd (omega arith); clear = x.clear },
            record { tickets = λ a b. absurd (omega arith); clear = y.clear },
          ));
        },
        refl,
      )

  pub passes : (n id : ℕ) (m : Sat T) (room : T) (more : List (ℕ × Option T)) → 0 < n → m.1 ≡ (0, Some room) ∷ more → rank m.0.stage ≡ 2 → stands room m.0.front
      → Allows Holds n id m 1 (λ x. (x + 1) % 18446744073709551616) (passed (step n 1 1 0 none) m)
  passes n id m room more some-slot has turn good =
      let is : m ≡ (m.0, (0, Some room) ∷ more) = ap (λ (c : List (ℕ × Option T)). (m.0, c)) has in
      subst (λ (x : Sat T). Allows Holds n id x 1 (λ y. (y + 1) % 18446744073709551616) (passed (step n 1 1 0 none) x)) (sym is) (passes-at n id m room more some-slot has turn good m.0 is)

  -- split
  pub splits : (id : ℕ) (v : View) → Splits Holds id v v (newcomer v)
  splits id v s o me =
      let w : View = newcomer v in
      let f = o.each id v me in
      subst (λ vs. Holds (table s.words s.homes (vs ++ w ∷ []))) (sym (set_again s.views id v me)) (record {
        history = o.history;
        next = o.next;
        served = o.served;
        words = o.words;
        queue = o.queue;
        small = o.small;
        home = λ nobody. o.home (λ j u at. nobody j u (at_longer s.views (w ∷ []) j u at));
        each = λ j u at. ⊎_elim (λ t. o.each j u t)
            (λ (t : w ≡ u). subst (Fits o.history o.next o.served) t (record { begins = f.begins; order = omega arith; waits = λ h. absurd (omega arith); turn = λ h. absurd (omega arith); knows = knows_unmet }))
            (at_snoc s.views w u j at);
        pairs = λ i j u x ei ej ne.
            ⊎_elim (λ ti. ⊎_elim (λ tj. o.pairs i j u x ti tj ne) (λ (tj : w ≡ x). subst (λ y. Apart u y) tj (apart_idle w u refl refl).1) (at_snoc s.views w x j ej))
            (λ (ti : w ≡ u). subst (λ y. Apart y x) ti (apart_idle w x refl refl).0) (at_snoc s.views w u i ei);
      })

  -- join
  pub joins : (id : ℕ) (v : View) (other : ℕ) (u : View) → rank v.stage ≡ 0 → rank u.stage ≡ 0 → Joins Holds id v other u (together v u) blank
  joins id v other u idle idle' s o me apart yours =
      let yours' : get_elem? s.views other ≡ some u = sym (set_else s.views id other (together v u) apart) ∙ yours in
      let b : View = together v u in
      let whole : List Entry = longer v.front u.front in
      let f = o.each id v me in
      let g = o.each other u yours' in
      let pair = o.pairs id other v u me yours' (λ e. apart (sym e)) in
      let fronts = longer_one v.front u.front o.history f.begins g.begins in
      let told : Knows b.met = record { one = fronts.0; other = fronts.1; clear = pair.clear } in
      let order : InOrder 0 (merged v.calls u.calls) (length whole) = order_merged v.calls u.calls (length whole)
      (order_wider 0 v.calls (length v.front) (length whole) f.order (prefix_length v.front whole fronts.0))
      (order_wider 0 u.calls (length u.front) (length whole) g.order (prefix_length u.front whole fronts.1)) pair.clear in
      let mixes : (j : ℕ) (x : View) → get_elem? s.views j ≡ some x → j ≢ id → j ≢ other → Apart b x × Apart x b = λ j x at ne ne'.
      let p = o.pairs id j v x me at (λ e. ne (sym e)) in let q = o.pairs other j u x yours' at (λ e. ne' (sym e)) in
      let p' = o.pairs j id x v at me ne in let q' = o.pairs j other x u at yours' ne' in (
        record { tickets = λ h k. absurd (omega arith); clear = all_merged (λ c. All (λ d. (c.to ≤ d.from) ⊎ (d.to ≤ c.from)) x.calls) v.calls u.calls p.clear q.clear },
        record { tickets = λ h k. absurd (omega arith); clear = clear_merged x.calls v.calls u.calls p'.clear q'.clear },
      ) in record {
        history = o.history;
        next = o.next;
        served = o.served;
        words = o.words;
        queue = o.queue;
        small = o.small;
        home = λ nobody. o.home (none_turned s.views id v b me (omega arith) (none_turned (set s.views id b) other u blank yours (omega arith) nobody));
        each = each_set (set s.views id b) other blank (Fits o.history o.next o.served)
            (λ j x at ne. each_set s.views id b (Fits o.history o.next o.served) (λ k y at' ne'. o.each k y at')
            (record { begins = fronts.2; order = order; waits = λ h. absurd (omega arith); turn = λ h. absurd (omega arith); knows = told }) j x at)
            (fits_blank o.history o.next o.served);
        pairs = λ i j x y ei ej ne.
            ⊎_elim
            (λ ti. subst (λ z. Apart z y) ti.1 (apart_idle blank y refl refl).0)
            (λ ti. ⊎_elim
            (λ tj. subst (λ z. Apart x z) tj.1 (apart_idle blank x refl refl).1)
            (λ tj. ⊎_elim
            (λ si. ⊎_elim (λ sj. absurd (ne (si.0 ∙ sym sj.0))) (λ sj. subst (λ z. Apart z y) si.1 (mixes j y sj.1 sj.0 tj.0).0) (at_set s.views id j b y tj.1))
            (λ si. ⊎_elim (λ sj. subst (λ z. Apart x z) sj.1 (mixes i x si.1 si.0 ti.0).1) (λ sj. o.pairs i j x y si.1 sj.1 ne) (at_set s.views id j b y tj.1))
            (at_set s.views id i b x ti.1))
            (at_set (set s.views id b) other j blank y ej))
            (at_set (set s.views id b) other i blank x ei);
      }

  -- the second look of a join
  pub recalls : (n id : ℕ) (m : Sat T) → Allows Holds n id m 0 (λ x. x) (recalled (step n 0 0 0 none) m)
  recalls n id m s o wide me _ = let f = o.each id m.0 me in (m.0, keeps, tt, stays s o 0 id m.0 me, (refl, f.knows, f.order))
