-- Names to whom a publication is due.
use Rattle.std.proofs.Common.{◌≡◌, ℕ, Bool, true, false, ◌&&◌, ◌||◌, cond, List, [], ◌∷◌, refl, sym, ap, ◌∙◌}
use Rattle.std.proofs.lemmas.List.Kept.{IsStrictlySortedBy-filter}
use Rattle.std.specs.List.{filter}
use Rattle.std.specs.Ordering.{nat_cmp}
use Rattle.std.specs.Cmp.Lexicographic.{slice_cmp}
use Rattle.news_types.proofs.Members.{same_is}
use Rattle.news_types.specs.declared.words.Kind.{Kind}
use Rattle.news_types.specs.declared.story.Story.{Story}
use Rattle.news_types.specs.Names.{Bytes, same, is_in}
use Rattle.news_types.specs.History.{History}
use Rattle.news_types.specs.Products.{subscribers}
use Rattle.news_types.specs.Due.{Pub, is_due_by}
use Rattle.products.specs.declared.table.Products.{Products}
use Rattle.products.specs.Keeps.{KeepsFacts}
use Rattle.products.specs.Asked.{AreDue}

and_false : (a : Bool) → (a && false) ≡ false
and_false true = refl
and_false false = refl

-- at a name that is put before the others
in_more : (p : Bytes → Bool) (x s : Bytes) (xs ys : List Bytes) → is_in s ys ≡ (is_in s xs && p s) → (a b : Bool) → same s x ≡ a → p x ≡ b → is_in s (cond b (x ∷ ys) ys) ≡ ((a || is_in s xs) && p s)
in_more p x s xs ys rest true true is holds =
    let e : s ≡ x = same_is s x is in
    ap (λ b. b || is_in s ys) is ∙ sym (ap p e ∙ holds)
in_more p x s xs ys rest true false is fails =
    let e : s ≡ x = same_is s x is in
    let none : p s ≡ false = ap p e ∙ fails in
    rest ∙ ap (λ b. is_in s xs && b) none ∙ and_false (is_in s xs) ∙ sym none
in_more p x s xs ys rest false true isnt holds = ap (λ b. b || is_in s ys) isnt ∙ rest
in_more p x s xs ys rest false false isnt fails = rest

pub in_filter : (p : Bytes → Bool) (xs : List Bytes) (s : Bytes) → is_in s (filter p xs) ≡ (is_in s xs && p s)
in_filter p [] s = refl
in_filter p (x ∷ xs) s = in_more p x s xs (filter p xs) (in_filter p xs s) (same s x) (p x) refl refl

module _ (t : Products) (h : History) (ps : List Pub) (kind : Kind) (i : ℕ) (story : Story) (release : ℕ) (targets : List Bytes) where
  pub are_due : (test : Bytes → Bool) (names : List Bytes) → KeepsFacts t h → ((s : Bytes) → test s ≡ is_due_by h ps kind i story release targets s) → names ≡ filter test t.names.items → AreDue names h ps kind i story release targets
  are_due test names keeps alike is = record {
    each = λ s.
        ap (is_in s) is
        ∙ in_filter test t.names.items s
        ∙ ap (λ b. b && test s) (keeps.named s)
        ∙ ap (λ b. is_in s (subscribers h) && b) (alike s)
        ∙ sym (in_filter (is_due_by h ps kind i story release targets) (subscribers h) s);
    order = rw is (IsStrictlySortedBy-filter (slice_cmp nat_cmp) test t.names.items keeps.order);
  }
