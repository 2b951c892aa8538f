-- The table has each publication at its number.
use Rattle.std.proofs.Common.{◌≡◌, ℕ, zero, suc, ◌-◌, ◌==◌, Bool, true, false, cond, Option, Some, None, List, [], ◌∷◌, ◌++◌, length, refl, sym, ap, ◌∙◌, arith}
use Rattle.std.specs.Prelude.{slice_get}
use Rattle.std.specs.Option.{option_map}
use Rattle.std.proofs.lemmas.Bool.{eq-eqb, eqb-true}
use mathlib.Core.Bool.{true≢false}
use Rattle.news_types.specs.Names.{Bytes, is_in}
use Rattle.news_types.specs.History.{History}
use Rattle.news_types.specs.Products.{subscribers}
use Rattle.news_types.specs.Due.{Pub, shown as as_shown}
use Rattle.news_types.specs.Publications.{pubs}
use Rattle.news_types.specs.Feeds.{Dispatch, feed}
use Rattle.news_types.specs.Frames.{numbered}
use Rattle.news_types.specs.Answers.{publication_at}
use Rattle.news_types.proofs.Members.{some_is, none_some, mapped}
use Rattle.news_types.proofs.Numbering.{CountsDown, pubs_count_down}
use Rattle.publish_queue.specs.Keeps.{number_of}
use Rattle.publications.specs.declared.table.Published.{Published}
use Rattle.publications.specs.Keeps.{shown, oldest_first, pub_at}
use Rattle.story_tables.specs.Pages.{publication_of, shown_in}
use Rattle.story_tables.proofs.Listed.{oldest_counted, get_last, numbered_listed}

get_other : {A : Type 0} (xs : List A) (y : A) (k : ℕ) → (k ≡ length xs → ⊥) → slice_get (xs ++ y ∷ []) k ≡ slice_get xs k
get_other [] y zero other = absurd (other refl)
get_other [] y (suc k) other = refl
get_other (x ∷ xs) y zero other = refl
get_other (x ∷ xs) y (suc k) other = get_other xs y k (λ e. other (ap suc e))

either : (z : Bool) (o : Option Pub) → cond z o o ≡ o
either true o = refl
either false o = refl

pub by_number : (ps : List Pub) (n : ℕ) → CountsDown ps → pub_at ps n ≡ publication_at n ps
by_number [] n down = either (n == 0) None
by_number (p ∷ ps) n down = by (p.number == n) (n == 0) refl refl (by_number ps n down.1)
  where
    apart : (p.number == n) ≡ false → (n == 0) ≡ false → n - 1 ≡ length (oldest_first ps) → ⊥
    apart other above is =
        let pos : n ≡ 0 → ⊥ = λ e. true≢false (sym (eq-eqb n 0 e) ∙ above) in
        let off : p.number ≡ n → ⊥ = λ e. true≢false (sym (eq-eqb p.number n e) ∙ other) in
        off (omega (arith, pos, is, down.0, oldest_counted ps))

    by : (a z : Bool) → (p.number == n) ≡ a → (n == 0) ≡ z → pub_at ps n ≡ publication_at n ps
        → cond z None (slice_get (oldest_first ps ++ p ∷ []) (n - 1)) ≡ cond a (Some p) (publication_at n ps)
    by true true same none rest = absurd (omega (arith, eqb-true p.number n same, eqb-true n 0 none, down.0))
    by true false same above rest =
        let at : n - 1 ≡ length (oldest_first ps) = omega (arith, eqb-true p.number n same, down.0, oldest_counted ps) in
        ap (slice_get (oldest_first ps ++ p ∷ [])) at ∙ get_last (oldest_first ps) p
    by false true other none rest = ap (λ b. cond b None (slice_get (oldest_first ps) (n - 1))) (sym none) ∙ rest
    by false false other above rest =
        get_other (oldest_first ps) p (n - 1) (apart other above) ∙ ap (λ b. cond b None (slice_get (oldest_first ps) (n - 1))) (sym above) ∙ rest

found_number : (n : ℕ) (ps : List Pub) (p : Pub) → publication_at n ps ≡ Some p → p.number ≡ n
found_number n [] p is = absurd (none_some p is)
found_number n (q ∷ ps) p is = by (q.number == n) refl is (found_number n ps p)
  where
    by : (b : Bool) → (q.number == n) ≡ b → cond b (Some q) (publication_at n ps) ≡ Some p → (publication_at n ps ≡ Some p → p.number ≡ n) → p.number ≡ n
    by true same is rest = ap (λ (x : Pub). x.number) (sym (some_is q p is)) ∙ eqb-true q.number n same
    by false same is rest = rest is

-- what the table keeps of that number is the publication of that number
pub publication_told : (h : History) (n : ℕ) (kept : Option Published) → kept ≡ option_map shown (pub_at (pubs h) n) → option_map (publication_of n) kept ≡ option_map as_shown (publication_at n (pubs h))
publication_told h n kept keeps =
    ap (option_map (publication_of n)) (keeps ∙ ap (option_map shown) (by_number (pubs h) n (pubs_count_down h))) ∙ by (publication_at n (pubs h)) refl
  where
    by : (o : Option Pub) → publication_at n (pubs h) ≡ o → option_map (publication_of n) (option_map shown o) ≡ option_map as_shown o
    by None is = refl
    by (Some p) is = ap (λ (k : ℕ). Some (publication_of k (shown p))) (sym (found_number n (pubs h) p is))

-- the publication whose number the queue tells of a place of a feed is the entry there
pub dispatch_told : (h : History) (s : Bytes) (k number : ℕ) (o : Option ℕ) → o ≡ cond (is_in s (subscribers h)) (option_map number_of (numbered (feed h s) k)) None → is_in s (subscribers h) ≡ true
    → o ≡ Some number → option_map as_shown (publication_at number (pubs h)) ≡ option_map shown_in (numbered (feed h s) k)
dispatch_told h s k number o is there some =
    let found = mapped number_of (numbered (feed h s) k) number (ap (λ b. cond b (option_map number_of (numbered (feed h s) k)) None) (sym there) ∙ sym is ∙ some) in
    let listed = numbered_listed h s k found.0 found.1 in
    ap (λ (n : ℕ). option_map as_shown (publication_at n (pubs h))) (sym found.2)
    ∙ ap (option_map as_shown) (sym (by_number (pubs h) found.0.shown.number (pubs_count_down h)) ∙ listed.2)
    ∙ ap Some listed.1 ∙ sym (ap (option_map shown_in) found.1)

-- and there is none where it tells none
pub none_dispatched : (h : History) (s : Bytes) (k : ℕ) (o : Option ℕ) → o ≡ cond (is_in s (subscribers h)) (option_map number_of (numbered (feed h s) k)) None → is_in s (subscribers h) ≡ true
    → o ≡ None → None ≡ option_map shown_in (numbered (feed h s) k)
none_dispatched h s k o is there none =
    by (numbered (feed h s) k) (ap (λ b. cond b (option_map number_of (numbered (feed h s) k)) None) (sym there) ∙ sym is ∙ none)
  where
    by : (found : Option Dispatch) → option_map number_of found ≡ None → None ≡ option_map shown_in found
    by None e = refl
    by (Some d) e = absurd (none_some d.shown.number (sym e))
