-- The newest publication of an item is the one of the last of its numbers.
use Rattle.std.proofs.Common.{◌≡◌, ℕ, ◌<◌, ◌≤◌, ◌==◌, ◌&&◌, Bool, true, false, cond, Option, Some, None, List, [], ◌∷◌, length, refl, sym, ap, ◌∙◌, arith}
use Rattle.std.specs.Prelude.{nat_lt}
use Rattle.std.specs.Option.{option_map}
use Rattle.std.proofs.lemmas.Bool.Decides.{nat_tests}
use Rattle.news_types.specs.History.{History}
use Rattle.news_types.specs.Due.{Pub, takes_back}
use Rattle.news_types.specs.Publications.{pubs}
use Rattle.news_types.specs.Answers.{last_of, number_of, publication_at}
use Rattle.news_types.specs.Legal.{IsLegal}
use Rattle.news_types.specs.Members.{Each}
use Rattle.news_types.proofs.Members.{each_map, some_is, none_some}
use Rattle.news_types.proofs.Limits.{pubs_limited}
use Rattle.news_types.proofs.Numbering.{CountsDown, NumberTo, pubs_count_down, pub_numbers}
use Rattle.publications.specs.declared.table.Published.{Published}
use Rattle.publications.specs.Keeps.{shown, pub_at}
use Rattle.story_tables.specs.Holding.{newest_of, took_back}
use Rattle.story_tables.proofs.ByNumber.{by_number}

-- below a number that none has
last_is_newest : (i below : ℕ) (ps : List Pub) → Each (λ (p : Pub). p.number < below) ps → last_of i below ps ≡ newest_of i ps
last_is_newest i below [] all = refl
last_is_newest i below (p ∷ ps) all =
    let low : nat_lt p.number below ≡ true = grind (arith, nat_tests, all.0) in
    rw (low, and_true (p.item == i)) (ap (λ (o : Option Pub). cond (p.item == i) (Some p) o) (last_is_newest i below ps all.1))
  where
    and_true : (a : Bool) → (a && true) ≡ a
    and_true true = refl
    and_true false = refl

low_newest : (i : ℕ) (ps : List Pub) → CountsDown ps → number_of (newest_of i ps) ≤ length ps
low_newest i [] down = omega arith
low_newest i (p ∷ ps) down = by (p.item == i) (low_newest i ps down.1)
  where
    by : (b : Bool) → number_of (newest_of i ps) ≤ length ps → number_of (cond b (Some p) (newest_of i ps)) ≤ length (p ∷ ps)
    by true rest = omega (arith, down.0)
    by false rest = omega (arith, rest)

at_newest : (i : ℕ) (ps : List Pub) → CountsDown ps → publication_at (number_of (newest_of i ps)) ps ≡ newest_of i ps
at_newest i [] down = refl
at_newest i (p ∷ ps) down = by (p.item == i) (at_newest i ps down.1)
  where
    by : (b : Bool) → publication_at (number_of (newest_of i ps)) ps ≡ newest_of i ps
        → cond (p.number == number_of (cond b (Some p) (newest_of i ps))) (Some p) (publication_at (number_of (cond b (Some p) (newest_of i ps))) ps) ≡ cond b (Some p) (newest_of i ps)
    by true rest = let same : (p.number == p.number) ≡ true = grind (arith, nat_tests) in rw same refl
    by false rest =
        let low = low_newest i ps down.1 in
        let other : (p.number == number_of (newest_of i ps)) ≡ false = grind (arith, nat_tests, low, down.0) in
        rw other rest

-- what the table keeps of the last of the item's numbers
pub newest_told : (h : History) (i n : ℕ) (kept : Option Published) → IsLegal h → n ≡ number_of (last_of i 4294967295 (pubs h)) → kept ≡ option_map shown (pub_at (pubs h) n) → kept ≡ option_map shown (newest_of i (pubs h))
newest_told h i n kept legal last keeps =
    let few = pubs_limited h legal in
    let below : Each (λ (p : Pub). p.number < 4294967295) (pubs h) = each_map (NumberTo (length (pubs h))) (λ (p : Pub). p.number < 4294967295) (pubs h) (λ p to. omega (arith, to.1, few)) (pub_numbers h) in
    let is : n ≡ number_of (newest_of i (pubs h)) = last ∙ ap number_of (last_is_newest i 4294967295 (pubs h) below) in
    keeps ∙ ap (option_map shown) (by_number (pubs h) n (pubs_count_down h) ∙ ap (λ (k : ℕ). publication_at k (pubs h)) is ∙ at_newest i (pubs h) (pubs_count_down h))

-- it is a kill or a recall where what is kept of it is
pub some_took : (o : Option Pub) (kept : Option Published) (published : Published) → kept ≡ option_map shown o → kept ≡ Some published → takes_back published.kind ≡ took_back o
some_took None kept published keeps is = absurd (none_some published (sym keeps ∙ is))
some_took (Some p) kept published keeps is = ap (λ (x : Published). takes_back x.kind) (sym (some_is (shown p) published (sym keeps ∙ is)))

pub none_took : (o : Option Pub) (kept : Option Published) → kept ≡ option_map shown o → kept ≡ None → false ≡ took_back o
none_took None kept keeps is = refl
none_took (Some p) kept keeps is = absurd (none_some (shown p) (sym is ∙ keeps))
