-- Names in byte order: there is one such list of the same members.
use Rattle.std.proofs.Common.{◌≡◌, ℕ, Bool, true, false, cond, ◌||◌, List, [], ◌∷◌, refl, sym, ap, ◌∙◌, subst}
use mathlib.Core.Bool.{true≢false}
use Rattle.std.specs.declared.cmp.Ordering.{Ordering}
use Rattle.std.specs.declared.cmp.Ordering.TheVariants.{Less, Equal, Greater}
use Rattle.std.specs.Ordering.{nat_cmp, is_eq, is_le, ordering_reverse}
use Rattle.std.specs.Cmp.Lexicographic.{slice_cmp}
use Rattle.std.specs.List.Sorted.{IsStrictlySortedBy}
use Rattle.news_types.specs.declared.entry.Act.{Act}
use Rattle.news_types.specs.declared.entry.Act.TheVariants.{Request}
use Rattle.news_types.specs.declared.command.Command.TheVariants.{AddSubscriber}
use Rattle.news_types.specs.Names.{Bytes, same, is_in, AreInOrder}
use Rattle.news_types.specs.History.{History, by_command}
use Rattle.news_types.specs.Legal.{IsLegal, Follows}
use Rattle.news_types.specs.Products.{subscribers, subscribers_after}
use Rattle.news_types.specs.Answers.{put_name, in_order}
use Rattle.news_types.proofs.Members.{same_is, same_self}
use Rattle.news_types.proofs.Subscribed.{listed_is, not_taken}
use Rattle.publish_queue.specs.Order.{Differ}
use Rattle.publish_queue.proofs.Ascending as ascending
use Rattle.publish_queue.proofs.Ascending.{AllBehind}
use Rattle.publish_queue.proofs.ByName.{names_order}

turned : (x y : Bytes) → slice_cmp nat_cmp x y ≡ ordering_reverse (slice_cmp nat_cmp y x)
turned x y = names_order.total.antisymm x y

ties : (x y : Bytes) → same x y ≡ is_eq (slice_cmp nat_cmp x y)
ties x y = names_order.ties x y

or_false : (a b : Bool) → (a || b) ≡ false → (a ≡ false) × (b ≡ false)
or_false true b none = absurd (true≢false none)
or_false false b none = (refl, none)

or_swap : (a b c : Bool) → (a || (b || c)) ≡ (b || (a || c))
or_swap true true c = refl
or_swap true false c = refl
or_swap false b c = refl

in_head : (x : Bytes) (xs : List Bytes) → is_in x (x ∷ xs) ≡ true
in_head x xs = rw (same_self x) refl

-- ---- lists in order

none_behind : (x : Bytes) (ys : List Bytes) → AllBehind (slice_cmp nat_cmp) x ys → is_in x ys ≡ false
none_behind x ys all = ascending.none_behind names_order x ys all

behind_less : (x y : Bytes) (zs : List Bytes) → slice_cmp nat_cmp x y ≡ Less → AllBehind (slice_cmp nat_cmp) y zs → AllBehind (slice_cmp nat_cmp) x zs
behind_less x y [] less all = tt
behind_less x y (z ∷ zs) less all = (names_order.total.trans x y z less all.0, behind_less x y zs less all.1)

-- a name that comes before all of a list is not in it
not_in : (x y : Bytes) (ys : List Bytes) → slice_cmp nat_cmp x y ≡ Less → AreInOrder (y ∷ ys) → is_in x (y ∷ ys) ≡ false
unfolding IsStrictlySortedBy
not_in x y ys less up = none_behind x (y ∷ ys) (less, behind_less x y ys less up.0)

abbrev Alike : List Bytes → List Bytes → Type 0
Alike xs ys = (s : Bytes) → is_in s xs ≡ is_in s ys

head_is : (x y : Bytes) (xs ys : List Bytes) → AreInOrder (x ∷ xs) → AreInOrder (y ∷ ys) → Alike (x ∷ xs) (y ∷ ys) → x ≡ y
head_is x y xs ys one two alike = by (slice_cmp nat_cmp x y) refl
  where
    by : (r : Ordering) → slice_cmp nat_cmp x y ≡ r → x ≡ y
    by Equal e = names_order.is x y (ties x y ∙ ap is_eq e)
    by Less e = absurd (true≢false (sym (in_head x xs) ∙ alike x ∙ not_in x y ys e two))
    by Greater e = absurd (true≢false (sym (in_head y ys) ∙ sym (alike y) ∙ not_in y x xs (turned y x ∙ ap ordering_reverse e) one))

rest_alike : (x : Bytes) (xs ys : List Bytes) → AreInOrder (x ∷ xs) → AreInOrder (x ∷ ys) → Alike (x ∷ xs) (x ∷ ys) → Alike xs ys
unfolding IsStrictlySortedBy
rest_alike x xs ys one two alike s = by (same s x) refl (alike s)
  where
    by : (b : Bool) → same s x ≡ b → (b || is_in s xs) ≡ (b || is_in s ys) → is_in s xs ≡ is_in s ys
    by true e both =
        let is : s ≡ x = same_is s x e in
        (ap (λ t. is_in t xs) is ∙ none_behind x xs one.0) ∙ sym (ap (λ t. is_in t ys) is ∙ none_behind x ys two.0)
    by false e both = both

pub one_order : (xs ys : List Bytes) → AreInOrder xs → AreInOrder ys → ((s : Bytes) → is_in s xs ≡ is_in s ys) → xs ≡ ys
unfolding IsStrictlySortedBy
one_order [] [] one two alike = refl
one_order [] (y ∷ ys) one two alike = absurd (true≢false (sym (in_head y ys) ∙ sym (alike y)))
one_order (x ∷ xs) [] one two alike = absurd (true≢false (sym (in_head x xs) ∙ alike x))
one_order (x ∷ xs) (y ∷ ys) one two alike =
    let head : x ≡ y = head_is x y xs ys one two alike in
    let up : AreInOrder (x ∷ ys) = subst (λ (z : Bytes). AreInOrder (z ∷ ys)) (sym head) two in
    let rest = rest_alike x xs ys one up (λ s. alike s ∙ ap (λ (z : Bytes). is_in s (z ∷ ys)) (sym head)) in
    λ i. head i ∷ one_order xs ys one.1 up.1 rest i

-- ---- names that are put in order

in_put : (s t : Bytes) (names : List Bytes) → is_in s (put_name t names) ≡ (same s t || is_in s names)
in_put s t [] = refl
in_put s t (u ∷ names) =
    elim (is_le (slice_cmp nat_cmp t u)) as (λ b. is_in s (cond b (t ∷ u ∷ names) (u ∷ put_name t names)) ≡ (same s t || (same s u || is_in s names))) [
      | true ↦ refl
      | false ↦ ap (λ b. same s u || b) (in_put s t names) ∙ or_swap (same s u) (same s t) (is_in s names)
    ]

behind_put : (u t : Bytes) (names : List Bytes) → slice_cmp nat_cmp u t ≡ Less → AllBehind (slice_cmp nat_cmp) u names → AllBehind (slice_cmp nat_cmp) u (put_name t names)
behind_put u t [] less all = (less, tt)
behind_put u t (v ∷ names) less all =
    elim (is_le (slice_cmp nat_cmp t v)) as (λ b. AllBehind (slice_cmp nat_cmp) u (cond b (t ∷ v ∷ names) (v ∷ put_name t names))) [
      | true ↦ (less, all)
      | false ↦ (all.0, behind_put u t names less all.1)
    ]

ascends_put : (t : Bytes) (names : List Bytes) → AreInOrder names → is_in t names ≡ false → AreInOrder (put_name t names)
unfolding IsStrictlySortedBy
ascends_put t [] up new = (tt, tt)
ascends_put t (u ∷ names) up new = by (slice_cmp nat_cmp t u) refl (ascends_put t names up.1 ((or_false (same t u) (is_in t names) new).1))
  where
    by : (r : Ordering) → slice_cmp nat_cmp t u ≡ r → AreInOrder (put_name t names) → AreInOrder (cond (is_le r) (t ∷ u ∷ names) (u ∷ put_name t names))
    by Less e rest = ((e, behind_less t u names e up.0), up)
    by Equal e rest = absurd (true≢false (sym (ties t u ∙ ap is_eq e) ∙ (or_false (same t u) (is_in t names) new).0))
    by Greater e rest = (behind_put u t names (turned u t ∙ ap ordering_reverse e) up.0, rest)

in_order_in : (s : Bytes) (names : List Bytes) → is_in s (in_order names) ≡ is_in s names
in_order_in s [] = refl
in_order_in s (t ∷ names) = in_put s t (in_order names) ∙ ap (λ b. same s t || b) (in_order_in s names)

in_order_ascends : (names : List Bytes) → Differ names → AreInOrder (in_order names)
unfolding IsStrictlySortedBy
in_order_ascends [] differ = tt
in_order_ascends (t ∷ names) differ = ascends_put t (in_order names) (in_order_ascends names differ.1) (in_order_in t names ∙ differ.0)

-- ---- subscribers

differ_step : (h : History) (act : Act) (m : ℕ) → Follows h act m → Differ (subscribers h) → Differ (by_command subscribers_after act (subscribers h))
differ_step h (Request caller number (AddSubscriber t f products lag)) m follows rest = (listed_is h t ∙ not_taken h caller number (AddSubscriber t f products lag) m follows.1, rest)
differ_step h (Request caller number command) m follows rest = rest
differ_step h _ m follows rest = rest

-- none is a subscriber twice
pub subscribers_differ : (h : History) → IsLegal h → Differ (subscribers h)
subscribers_differ [] legal = tt
subscribers_differ (e ∷ h) legal = differ_step h e.act e.moment legal.2 (subscribers_differ h legal.0)

-- names in order that are those of the subscribers
pub subscribers_in_order : (h : History) (names : List Bytes) → IsLegal h → AreInOrder names → ((s : Bytes) → is_in s names ≡ is_in s (subscribers h)) → names ≡ in_order (subscribers h)
subscribers_in_order h names legal up alike =
    one_order names (in_order (subscribers h)) up (in_order_ascends (subscribers h) (subscribers_differ h legal)) (λ s. alike s ∙ sym (in_order_in s (subscribers h)))
