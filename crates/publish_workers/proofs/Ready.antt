-- Where none of the feeds is ready, and what it takes for one.
use Rattle.std.proofs.Common.{◌≡◌, inl, inr, ◌≤◌, ◌||◌, ◌&&◌, ℕ, zero, suc, nat_le, Bool, true, false, cond, List, [], ◌∷◌, length, Option, Some, None, refl, sym, ap, ◌∙◌, subst, arith}
use Rattle.std.specs.Prelude.{filter_map}
use Rattle.std.specs.List.{cons_option, slice_get}
use Rattle.std.specs.Option.{option_map}
use Rattle.std.proofs.lemmas.Bool.{true≢false}
use Rattle.std.proofs.lemmas.Bool.Decides.{nat_tests}
use Rattle.std.proofs.lemmas.Option.{slice_get_cases}
use Rattle.news_types.specs.declared.query.Ready.TheVariants.{Now, Later}
use Rattle.news_types.specs.Names.{Bytes, same, is_in}
use Rattle.news_types.specs.History.{History, moment}
use Rattle.news_types.specs.Products.{is_subscriber}
use Rattle.news_types.specs.Feeds.{Dispatch, feed, due_to}
use Rattle.news_types.specs.Publications.{standing}
use Rattle.news_types.specs.Delivery.{acked, tries, tried, next_entry, ready_from, ready_at, is_by, is_ready, Candidate, candidate, earliest, ready_candidate, chosen, choice}
use Rattle.news_types.proofs.Members.{none_some, same_is}
use Rattle.news_types.proofs.Feeds.{AllTo, out_is_to}
use Rattle.news_types.proofs.Subscribed.{absent_feed}
use Rattle.publish_workers.specs.Completeness.{IsAcknowledged, NoneReady}

-- ---- none is ready where none is chosen

none_among : (cs : List Candidate) → earliest cs ≡ None → cs ≡ []
none_among [] is = refl
none_among (c ∷ cs) is = absurd (none_some _ (sym is))

now_later : (s : Bytes) (k : ℕ) (next : Option ℕ) → Now s k ≡ Later next → ⊥
now_later s k next is = cc

not_chosen : (h : History) (o : Option Candidate) (names : List Bytes) (next : Option ℕ) → chosen h o names ≡ Later next → o ≡ None
not_chosen h None names next is = refl
not_chosen h (Some c) names next is = absurd (now_later _ _ next is)

nil_cons : {A : Type 0} (x : A) (xs : List A) → x ∷ xs ≡ [] → ⊥
nil_cons x xs is = cc

nothing_in : {A : Type 0} (o : Option A) (xs : List A) → cons_option o xs ≡ [] → (o ≡ None) × (xs ≡ [])
nothing_in None xs is = (refl, is)
nothing_in (Some x) xs is = absurd (nil_cons x xs is)

none_found : (f : Bytes → Option Candidate) (names : List Bytes) (s : Bytes) → is_in s names ≡ true → filter_map f names ≡ [] → f s ≡ None
none_found f [] s there none = absurd (true≢false (sym there))
none_found f (x ∷ names) s there none = let parts = nothing_in (f x) (filter_map f names) none in by (same s x) refl there parts.0 (λ in'. none_found f names s in' parts.1)
  where
    by : (b : Bool) → same s x ≡ b → (b || is_in s names) ≡ true → f x ≡ None → (is_in s names ≡ true → f s ≡ None) → f s ≡ None
    by true alike in' here rest = ap f (same_is s x alike) ∙ here
    by false other in' here rest = rest in'

and_false : (b : Bool) → (b && false) ≡ false
and_false true = refl
and_false false = refl

unready : (s : Bytes) (there ready : Bool) (m : ℕ) (o : Option ℕ) → (there && is_by m o) ≡ ready → cond ready (option_map (candidate s) o) None ≡ None → ready ≡ false
unready s there false m o is none = refl
unready s there true m None is none = absurd (true≢false (sym is ∙ and_false there))
unready s there true m (Some at) is none = absurd (none_some _ (sym none))

pub none_ready : (h : History) (names : List Bytes) (m : ℕ) (next : Option ℕ) (s : Bytes) → choice h names m ≡ Later next → is_in s names ≡ true → is_ready h s m ≡ false
none_ready h names m next s is there =
    let none : filter_map (ready_candidate h m) names ≡ [] = none_among (filter_map (ready_candidate h m) names) (not_chosen h (earliest (filter_map (ready_candidate h m) names)) names next is) in
    unready s (is_subscriber h s) (is_ready h s m) m (ready_at h s) refl (none_found (ready_candidate h m) names s there none)

-- ---- a feed without failed tries is ready as long as it has an entry that is not acknowledged

to_get : (m : ℕ) (ds : List Dispatch) (i : ℕ) (d : Dispatch) → AllTo m ds → slice_get ds i ≡ Some d → d.release ≤ m
to_get m [] i d all is = absurd (none_some d is)
to_get m (e ∷ es) zero d all is = let same' : e ≡ d = cc in subst (λ (x : Dispatch). x.release ≤ m) same' all.0
to_get m (e ∷ es) (suc i) d all is = to_get m es i d all.1 is

past : {A : Type 0} (xs : List A) (i : ℕ) → slice_get xs i ≡ None → length xs ≤ i
past xs i none = elim ((slice_get_cases xs i).1) [
  | inl found ↦ absurd (none_some found.0 (sym none ∙ found.2))
  | inr over ↦ over.0
]

ready_now : (h : History) (s : Bytes) (m : ℕ) (d : Dispatch) → is_subscriber h s ≡ true → next_entry h s ≡ Some d → tries h s ≡ 0 → d.release ≤ m → is_ready h s m ≡ true
ready_now h s m d there is zero' le =
    let by : nat_le d.release m ≡ true = grind (arith, nat_tests) in
    ap (λ (b : Bool). b && is_by m (ready_at h s)) there ∙ ap (λ (o : Option Dispatch). is_by m (ready_from o (tries h s) (tried h s))) is ∙ ap (λ (n : ℕ). is_by m (ready_from (Some d) n (tried h s))) zero' ∙ by

pub all_done : (h : History) (s : Bytes) (m : ℕ) → moment h ≤ m → is_ready h s m ≡ false → tries h s ≡ 0 → IsAcknowledged h s
all_done h s m le unready zero' = by (is_subscriber h s) (next_entry h s) refl refl
  where
    by : (there : Bool) (o : Option Dispatch) → is_subscriber h s ≡ there → next_entry h s ≡ o → IsAcknowledged h s
    by false o there is = let none : length (feed h s) ≡ 0 = ap length (absent_feed h s there) in omega (arith, none)
    by true None there is = past (feed h s) (acked h s) is
    by true (Some d) there is =
        let out : d.release ≤ moment h = to_get (moment h) (feed h s) (acked h s) d (out_is_to (moment h) (due_to s (standing h))) is in
        absurd (true≢false (sym (ready_now h s m d there is zero' (omega (arith, out, le))) ∙ unready))

pub none_ready_at : (h : History) (names : List Bytes) (m : ℕ) (next : Option ℕ) → moment h ≤ m → choice h names m ≡ Later next → NoneReady h names m
none_ready_at h names m next le is = record {
  next = next;
  choice_is = is;
  none = λ s there. none_ready h names m next s is there;
  done = λ s there zero'. all_done h s m le (none_ready h names m next s is there) zero';
}
