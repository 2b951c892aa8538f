-- The numbers of an item's publications are those of what stands of it, and of nothing else that stands.
use Rattle.std.proofs.Common.{◌≡◌, ◌==◌, ℕ, ◌&&◌, ◌||◌, Bool, true, false, cond, List, [], ◌∷◌, ◌++◌, suc, refl, sym, ap, ◌∙◌}
use Rattle.std.specs.List.{list_any}
use Rattle.std.proofs.lemmas.Bool.{eq-eqb, eqb-true}
use mathlib.Core.Bool.{true≢false}
use Rattle.news_types.specs.declared.query.Publication.{Publication}
use Rattle.news_types.specs.Members.{Each}
use Rattle.news_types.specs.History.{History}
use Rattle.news_types.specs.Due.{Pub, shown}
use Rattle.news_types.specs.Publications.{pubs, standing}
use Rattle.news_types.proofs.Members.{each_map}
use Rattle.news_types.proofs.Numbering.{IsAmong, IsShownAmong, each_among, pubs_count_down, standing_among, same_number}
use Rattle.publish_queue.specs.Rows.{is_among}
use Rattle.publications.specs.Numbers.{numbers_of}

or_false : (a : Bool) → (a || false) ≡ a
or_false true = refl
or_false false = refl

or_turned : (a b : Bool) → (a || b) ≡ (b || a)
or_turned true true = refl
or_turned true false = refl
or_turned false true = refl
or_turned false false = refl

among_more : (n k : ℕ) (numbers : List ℕ) → is_among n (numbers ++ k ∷ []) ≡ ((n == k) || is_among n numbers)
among_more n k [] = refl
among_more n k (l ∷ numbers) = by (n == l) (n == k) (among_more n k numbers)
  where
    by : (a b : Bool) → is_among n (numbers ++ k ∷ []) ≡ (b || is_among n numbers) → (a || is_among n (numbers ++ k ∷ [])) ≡ (b || (a || is_among n numbers))
    by true true rest = refl
    by true false rest = refl
    by false b rest = rest

-- it is a publication of the item, and has that number
abbrev is_it : ℕ → ℕ → Publication → Bool
is_it i n q = q.item == i && n == q.number

among_numbers : (n i : ℕ) (ps : List Pub) → is_among n (numbers_of i ps) ≡ list_any (λ (q : Pub). is_it i n (shown q)) ps
among_numbers n i [] = refl
among_numbers n i (p ∷ ps) = by (p.item == i) (among_numbers n i ps)
  where
    by : (b : Bool) → is_among n (numbers_of i ps) ≡ list_any (λ (q : Pub). is_it i n (shown q)) ps
        → is_among n (cond b (numbers_of i ps ++ p.number ∷ []) (numbers_of i ps)) ≡ ((b && (n == p.number)) || list_any (λ (q : Pub). is_it i n (shown q)) ps)
    by true rest = among_more n p.number (numbers_of i ps) ∙ ap (λ b. (n == p.number) || b) rest
    by false rest = rest

none_of : (t : Publication → Bool) (l : List Pub) → list_any (λ (q : Pub). t (shown q)) l ≡ false → Each (λ (q : Pub). t (shown q) ≡ false) l
none_of t [] is = tt
none_of t (q ∷ l) is = by (t (shown q)) refl is (none_of t l)
  where
    by : (a : Bool) → t (shown q) ≡ a → (a || list_any (λ (o : Pub). t (shown o)) l) ≡ false → (list_any (λ (o : Pub). t (shown o)) l ≡ false → Each (λ (o : Pub). t (shown o) ≡ false) l) → Each (λ (o : Pub). t (shown o) ≡ false) (q ∷ l)
    by true e is rest = absurd (true≢false is)
    by false e is rest = (e, rest is)

-- what holds of one of them holds of some
any_true : (t : Publication → Bool) (ps : List Pub) (it : Publication) → IsAmong ps it → t it ≡ true → list_any (λ (q : Pub). t (shown q)) ps ≡ true
any_true t ps it among holds = by (list_any (λ (q : Pub). t (shown q)) ps) refl
  where
    by : (b : Bool) → list_any (λ (q : Pub). t (shown q)) ps ≡ b → b ≡ true
    by true e = refl
    by false e = absurd (true≢false (sym holds ∙ each_among (λ (q : Publication). t q ≡ false) ps it (none_of t ps e) among))

any_false : (t : Publication → Bool) (ps : List Pub) → ((it : Publication) → IsAmong ps it → t it ≡ false) → list_any (λ (q : Pub). t (shown q)) ps ≡ false
any_false t [] all = refl
any_false t (p ∷ ps) all = ap (λ b. b || list_any (λ (q : Pub). t (shown q)) ps) (all (shown p) (0, refl)) ∙ any_false t ps (λ it among. all it (suc among.0, among.1))

module _ (h : History) (i : ℕ) where
  -- of one of them that is of another item, no publication of the item has the number
  apart : (it : Publication) → IsAmong (pubs h) it → (it.item == i) ≡ false → (q : Publication) → IsAmong (pubs h) q → is_it i it.number q ≡ false
  apart it among other q there = by (q.item == i) (it.number == q.number) refl refl
    where
      by : (a b : Bool) → (q.item == i) ≡ a → (it.number == q.number) ≡ b → (a && b) ≡ false
      by false b one two = refl
      by true false one two = refl
      by true true one two =
          let same : it ≡ q = same_number (pubs h) it q (pubs_count_down h) among there (eqb-true it.number q.number two) in
          absurd (true≢false (sym one ∙ ap (λ (x : Publication). x.item == i) (sym same) ∙ other))

  number_is : (p : Pub) → IsShownAmong (pubs h) p → is_among p.number (numbers_of i (pubs h)) ≡ (p.item == i)
  number_is p among = among_numbers p.number i (pubs h) ∙ by (p.item == i) refl
    where
      by : (b : Bool) → (p.item == i) ≡ b → list_any (λ (q : Pub). is_it i p.number (shown q)) (pubs h) ≡ b
      by true is = any_true (is_it i p.number) (pubs h) (shown p) among (ap (λ b. b && (p.number == p.number)) is ∙ eq-eqb p.number p.number refl)
      by false is = any_false (is_it i p.number) (pubs h) (apart (shown p) among is)

  pub numbers_are : Each (λ (p : Pub). is_among p.number (numbers_of i (pubs h)) ≡ (p.item == i)) (standing h)
  numbers_are = each_map (IsShownAmong (pubs h)) (λ (p : Pub). is_among p.number (numbers_of i (pubs h)) ≡ (p.item == i)) (standing h) number_is (standing_among h)
