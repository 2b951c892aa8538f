-- What the feed that publications make has of an item.
use Rattle.std.proofs.Common.{◌≡◌, ◌==◌, ℕ, ◌+◌, ◌≤◌, inl, inr, Bool, true, false, cond, not, ◌&&◌, ◌||◌, List, [], ◌∷◌, reverse, Option, Some, None, refl, sym, ap, ◌∙◌, arith}
use Rattle.std.specs.Prelude.{nat_le, nat_lt, is_some}
use Rattle.std.specs.List.{find, list_any}
use Rattle.std.specs.Option.{option_or}
use Rattle.std.proofs.lemmas.Bool.{cases_lt}
use Rattle.std.proofs.lemmas.Bool.Decides.{nat_tests, Decides-eqb}
use Rattle.std.proofs.lemmas.List.{reverse-append}
use Rattle.std.proofs.lemmas.List.Folds.{find-append}
use mathlib.Core.Bool.{true≢false}
use Rattle.news_types.specs.declared.query.Due.{Due}
use Rattle.news_types.specs.Names.{Bytes}
use Rattle.news_types.specs.Members.{Each}
use Rattle.news_types.specs.Due.{Pub, takes_back, release_to, is_by, had_by}
use Rattle.news_types.specs.Feeds.{Dispatch, dispatch, inserted, is_out, due_to, feed_of}
use Rattle.news_types.proofs.Members.{none_some, each_filter}
use Rattle.news_types.proofs.Feeds.{AllFrom, all_from_less, Rises, rises_filter, rises_due_to, put_filtered}
use Rattle.news_types.proofs.Withdrawn.{feed_more}
use Rattle.news_types.proofs.Dues.{each_release}
use Rattle.news_types.proofs.Numbering.{GoesOver, each_due_to}
use Rattle.story_tables.specs.Holding.{is_of, last_of, is_left, has_item}
use Rattle.story_tables.proofs.Over.{any_back}

-- ---- the last entry of an item

-- an entry is of the item
abbrev any_of : ℕ → List Dispatch → Bool
any_of i ds = list_any (is_of i) ds

last_cons : (i : ℕ) (d : Dispatch) (ds : List Dispatch) → last_of i (d ∷ ds) ≡ option_or (last_of i ds) (cond (is_of i d) (Some d) None)
last_cons i d ds = ap (find (is_of i)) (reverse-append (d ∷ []) ds) ∙ find-append (is_of i) (reverse ds) (d ∷ [])

-- it is there where an entry is of the item
is_there : (i : ℕ) (ds : List Dispatch) → is_some (last_of i ds) ≡ any_of i ds
is_there i [] = refl
is_there i (d ∷ ds) = ap is_some (last_cons i d ds) ∙ by (last_of i ds) (is_of i d) ∙ ap (λ (b : Bool). is_of i d || b) (is_there i ds)
  where
    by : (o : Option Dispatch) (b : Bool) → is_some (option_or o (cond b (Some d) None)) ≡ (b || is_some o)
    by None true = refl
    by None false = refl
    by (Some e) true = refl
    by (Some e) false = refl

abbrev one_left : ℕ → Dispatch → Bool
one_left i d = is_of i d && not (takes_back d.shown.kind)

-- one entry in front counts where no other is of the item
has_cons : (i : ℕ) (d : Dispatch) (ds : List Dispatch) → has_item (d ∷ ds) i ≡ cond (any_of i ds) (has_item ds i) (one_left i d)
has_cons i d ds = ap is_left (last_cons i d ds) ∙ by (last_of i ds) (is_of i d) ∙ ap (λ (b : Bool). cond b (has_item ds i) (one_left i d)) (is_there i ds)
  where
    by : (o : Option Dispatch) (b : Bool) → is_left (option_or o (cond b (Some d) None)) ≡ cond (is_some o) (is_left o) (b && not (takes_back d.shown.kind))
    by None true = refl
    by None false = refl
    by (Some e) b = refl

none_has : (i : ℕ) (ds : List Dispatch) → any_of i ds ≡ false → has_item ds i ≡ false
none_has i ds none = by (last_of i ds) (is_there i ds ∙ none)
  where
    by : (o : Option Dispatch) → is_some o ≡ false → is_left o ≡ false
    by None e = refl
    by (Some d) e = absurd (true≢false e)

-- where none takes the item back
abbrev NoBack : ℕ → Dispatch → Type 0
NoBack i d = is_of i d ≡ true → takes_back d.shown.kind ≡ false

no_back_has : (i : ℕ) (ds : List Dispatch) → Each (NoBack i) ds → has_item ds i ≡ any_of i ds
no_back_has i [] none = refl
no_back_has i (d ∷ ds) none = has_cons i d ds ∙ by (is_of i d) refl (any_of i ds) (no_back_has i ds none.1)
  where
    by : (b : Bool) → is_of i d ≡ b → (c : Bool) → has_item ds i ≡ c → cond c (has_item ds i) (b && not (takes_back d.shown.kind)) ≡ (b || c)
    by false is true rest = rest
    by false is false rest = refl
    by true is true rest = rest
    by true is false rest = rw (none.0 is) refl

-- ---- one more in its place

any_inserted : (i : ℕ) (d : Dispatch) (l : List Dispatch) → any_of i (inserted d l) ≡ (is_of i d || any_of i l)
any_inserted i d [] = refl
any_inserted i d (e ∷ es) = by (nat_lt d.release e.release) (is_of i d) (is_of i e) refl refl (any_inserted i d es)
  where
    by : (t b c : Bool) → is_of i d ≡ b → is_of i e ≡ c → any_of i (inserted d es) ≡ (is_of i d || any_of i es) → any_of i (cond t (d ∷ e ∷ es) (e ∷ inserted d es)) ≡ (is_of i d || (is_of i e || any_of i es))
    by true b c is its rest = refl
    by false true c is its rest = rw (rest, is) (turned (is_of i e))
      where
        turned : (x : Bool) → (x || true) ≡ true
        turned true = refl
        turned false = refl
    by false false c is its rest = rw (rest, is) refl

-- one of another item
other_inserted : (i : ℕ) (d : Dispatch) (l : List Dispatch) → is_of i d ≡ false → has_item (inserted d l) i ≡ has_item l i
other_inserted i d [] other = rw other refl
other_inserted i d (e ∷ es) other = by (nat_lt d.release e.release) (other_inserted i d es other)
  where
    front : (c : Bool) → any_of i (e ∷ es) ≡ c → cond c (has_item (e ∷ es) i) (one_left i d) ≡ has_item (e ∷ es) i
    front true is = refl
    front false is = rw other (sym (none_has i (e ∷ es) is))

    by : (t : Bool) → has_item (inserted d es) i ≡ has_item es i → has_item (cond t (d ∷ e ∷ es) (e ∷ inserted d es)) i ≡ has_item (e ∷ es) i
    by true rest = has_cons i d (e ∷ es) ∙ front (any_of i (e ∷ es)) refl
    by false rest =
        has_cons i e (inserted d es) ∙ ap (λ (b : Bool). cond b (has_item (inserted d es) i) (one_left i e)) (any_inserted i d es ∙ ap (λ (b : Bool). b || any_of i es) other)
        ∙ ap (λ (b : Bool). cond (any_of i es) b (one_left i e)) rest ∙ sym (has_cons i e es)

-- the entries of the item are not later
abbrev NotLater : ℕ → ℕ → Dispatch → Type 0
NotLater i r d = is_of i d ≡ true → d.release ≤ r

none_later : (i r : ℕ) (l : List Dispatch) → Each (NotLater i r) l → AllFrom (r + 1) l → any_of i l ≡ false
none_later i r [] early late = refl
none_later i r (e ∷ es) early late = by (is_of i e) refl (none_later i r es early.1 late.1)
  where
    by : (b : Bool) → is_of i e ≡ b → any_of i es ≡ false → (b || any_of i es) ≡ false
    by true is rest = let le : e.release ≤ r = early.0 is in absurd (omega (arith, le, late.0))
    by false is rest = rest

-- what takes an item back is behind all its entries, where they are not later
back_inserted : (i : ℕ) (d : Dispatch) (l : List Dispatch) → is_of i d ≡ true → takes_back d.shown.kind ≡ true → Rises l → Each (NotLater i d.release) l → has_item (inserted d l) i ≡ false
back_inserted i d [] is back rises early = rw (is, back) refl
back_inserted i d (e ∷ es) is back rises early = elim (cases_lt d.release e.release) [
  | inl lt ↦
      let t : nat_lt d.release e.release ≡ true = grind (arith, nat_tests) in
      let all : AllFrom (d.release + 1) (e ∷ es) = (omega (arith, lt), all_from_less (d.release + 1) e.release es (omega (arith, lt)) rises.0) in
      let none : any_of i (e ∷ es) ≡ false = none_later i d.release (e ∷ es) early all in
      rw t (has_cons i d (e ∷ es) ∙ rw (none, is, back) refl)
  | inr le ↦
      let t : nat_lt d.release e.release ≡ false = grind (arith, nat_tests) in
      let some : any_of i (inserted d es) ≡ true = any_inserted i d es ∙ ap (λ (b : Bool). b || any_of i es) is in
      rw t (has_cons i e (inserted d es) ∙ rw some (back_inserted i d es is back rises.1 early.1))
]

-- ---- the feed that publications make

-- what holds of publications goes over to their feed
each_feed_of : (P : Pub → Type 0) (Q : Dispatch → Type 0) (s : Bytes) (m : ℕ) (ps : List Pub) → GoesOver P s Q → Each P ps → Each Q (feed_of ps m s)
each_feed_of P Q s m ps over all = each_filter Q (is_out m) (due_to s ps) (each_due_to P Q s ps over all)

-- an entry is of the item where something of it is released
any_feed : (i m : ℕ) (s : Bytes) (ps : List Pub) → any_of i (feed_of ps m s) ≡ had_by m ps i s
any_feed i m s [] = refl
any_feed i m s (p ∷ ps) = ap (any_of i) (feed_more m s p ps) ∙ by (release_to s p.due) ∙ ap (λ (b : Bool). (p.item == i && is_by m (release_to s p.due)) || b) (any_feed i m s ps)
  where
    and_false : (a : Bool) → (a && false) ≡ false
    and_false true = refl
    and_false false = refl

    and_true : (a : Bool) → (a && true) ≡ a
    and_true true = refl
    and_true false = refl

    out : (r : ℕ) (b : Bool) → any_of i (cond b (inserted (dispatch p r) (feed_of ps m s)) (feed_of ps m s)) ≡ ((p.item == i && b) || any_of i (feed_of ps m s))
    out r true = rw (and_true (p.item == i)) (any_inserted i (dispatch p r) (feed_of ps m s))
    out r false = rw (and_false (p.item == i)) refl

    by : (o : Option ℕ) → any_of i (put_filtered (is_out m) p o (feed_of ps m s)) ≡ ((p.item == i && is_by m o) || any_of i (feed_of ps m s))
    by None = rw (and_false (p.item == i)) refl
    by (Some r) = out r (nat_le r m)

-- where nothing takes the item back
abbrev IsNoBack : ℕ → Pub → Type 0
IsNoBack i p = (p.item == i) ≡ true → takes_back p.kind ≡ false

no_backs : (i : ℕ) (ps : List Pub) → any_back i ps ≡ false → Each (IsNoBack i) ps
no_backs i [] none = tt
no_backs i (p ∷ ps) none = by (p.item == i) (takes_back p.kind) none (no_backs i ps)
  where
    by : (b c : Bool) → ((b && c) || any_back i ps) ≡ false → (any_back i ps ≡ false → Each (IsNoBack i) ps) → (b ≡ true → c ≡ false) × Each (IsNoBack i) ps
    by true true none rest = absurd (true≢false none)
    by true false none rest = ((λ is. refl), rest none)
    by false c none rest = ((λ is. absurd (true≢false (sym is))), rest none)

pub clear_has : (i m : ℕ) (s : Bytes) (ps : List Pub) → any_back i ps ≡ false → has_item (feed_of ps m s) i ≡ had_by m ps i s
clear_has i m s ps none = no_back_has i (feed_of ps m s) (each_feed_of (IsNoBack i) (NoBack i) s m ps (λ p r no is. no) (no_backs i ps none)) ∙ any_feed i m s ps

-- one of another item changes nothing
pub other_has : (i m : ℕ) (s : Bytes) (p : Pub) (ps : List Pub) → (p.item == i) ≡ false → has_item (feed_of (p ∷ ps) m s) i ≡ has_item (feed_of ps m s) i
other_has i m s p ps other = ap (λ (l : List Dispatch). has_item l i) (feed_more m s p ps) ∙ by (release_to s p.due)
  where
    out : (r : ℕ) (b : Bool) → has_item (cond b (inserted (dispatch p r) (feed_of ps m s)) (feed_of ps m s)) i ≡ has_item (feed_of ps m s) i
    out r true = other_inserted i (dispatch p r) (feed_of ps m s) other
    out r false = refl

    by : (o : Option ℕ) → has_item (put_filtered (is_out m) p o (feed_of ps m s)) i ≡ has_item (feed_of ps m s) i
    by None = refl
    by (Some r) = out r (nat_le r m)

-- ---- what takes an item back ends it

-- to whom the second is released, the first is too, and no earlier
abbrev pub Under : ℕ → Pub → Pub → Type 0
Under i q p = p.item ≡ i → (s : Bytes) (r : ℕ) → release_to s p.due ≡ Some r → (r ≤ q.release) × (release_to s q.due ≡ Some q.release)

-- it is released to each at its own moment, which has come, and ends all of its item
pub record Ends (i m : ℕ) (q : Pub) (ps : List Pub) : Type 0 where
  pub come : q.release ≤ m
  pub at : Each (λ (d : Due). d.release ≡ q.release) q.due
  pub under : Each (Under i q) ps

pub ends_has : (i m : ℕ) (s : Bytes) (q : Pub) (ps : List Pub) → (q.item == i) ≡ true → takes_back q.kind ≡ true → Ends i m q ps → has_item (feed_of (q ∷ ps) m s) i ≡ false
ends_has i m s q ps is back ends = ap (λ (l : List Dispatch). has_item l i) (feed_more m s q ps) ∙ by (release_to s q.due) refl
  where
    l : List Dispatch
    l = feed_of ps m s

    by : (o : Option ℕ) → release_to s q.due ≡ o → has_item (put_filtered (is_out m) q o (feed_of ps m s)) i ≡ false
    by None none =
        none_has i (feed_of ps m s) (gone (feed_of ps m s) (each_feed_of (Under i q) (λ (d : Dispatch). is_of i d ≡ false) s m ps
        (λ p r under due. not_of (p.item == i) (λ here. none_some q.release (sym none ∙ (under ((Decides-eqb p.item i).0 here) s r due).1))) ends.under))
      where
        not_of : (b : Bool) → (b ≡ true → ⊥) → b ≡ false
        not_of true never = absurd (never refl)
        not_of false never = refl

        gone : (ds : List Dispatch) → Each (λ (d : Dispatch). is_of i d ≡ false) ds → any_of i ds ≡ false
        gone [] all = refl
        gone (d ∷ ds) all = rw all.0 (gone ds all.1)
    by (Some r) due =
        let own : r ≡ q.release = each_release (λ (n : ℕ). n ≡ q.release) s q.due r ends.at due in
        let out : nat_le r m ≡ true = grind (arith, nat_tests, own, ends.come) in
        rw out (back_inserted i (dispatch q r) (feed_of ps m s) is back (rises_filter (is_out m) (due_to s ps) (rises_due_to s ps))
        (each_feed_of (Under i q) (NotLater i r) s m ps (λ p a under had here. let le = (under ((Decides-eqb p.item i).0 here) s a had).0 in omega (arith, le, own)) ends.under))
