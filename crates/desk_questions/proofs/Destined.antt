-- What is told of a publication by its number.
use Rattle.std.proofs.Common.{◌≡◌, ℕ, Bool, List, [], ◌∷◌, ◌++◌, map, codes, Option, Some, None, refl, sym, ap, ◌∙◌}
use Rattle.std.specs.Prelude.{is_some, option_map}
use Rattle.std.specs.List.{flat_map}
use Rattle.std.specs.Option.{option_to_list}
use Rattle.std.proofs.lemmas.Grind.{flat_map-append}
use Rattle.std.proofs.lemmas.List.{append-nil, map-append}
use Rattle.serde_json.specs.Data as json
use Rattle.serde_json.specs.Data.{Items, Members, no_members, put}
use Rattle.news_types.specs.declared.words.Kind.{Kind}
use Rattle.news_types.specs.Names.{Bytes}
use Rattle.news_types.specs.History.{History}
use Rattle.news_types.specs.Products.{subscribers}
use Rattle.news_types.specs.Due.{Pub, shown}
use Rattle.news_types.specs.Publications.{pubs, standing}
use Rattle.news_types.specs.Answers.{in_order}
use Rattle.feed_reasons.specs.Courses.{due_of, numbered}
use Rattle.publications.specs.declared.table.Published.{Published}
use Rattle.story_tables.specs.Pages.{publication_of}
use Rattle.desk_answers.specs.Words.{kind_word}
use Rattle.told_objects.specs.Members.{◌with◌, text, number, flag, objects}
use Rattle.desk_views.specs.Publications.{Destined, destined, stands}
use Rattle.desk_questions.specs.Publications.{destined_row, destinies, destiny, destiny_at, publication_row, published_members, row_if_there, row_by_number}

-- with these rows of those to whom it was made due
abbrev row_of : Items → Kind → ℕ → ℕ → Bool → ℕ → Members
row_of due kind n release standing version =
    put (codes "due") (json.array due) no_members with text "kind" (kind_word kind) with number "publication" n with number "release" release
    with flag "stands" standing with number "version" version

published_row : (n : ℕ) (kept : Published) (due : Items) (standing : Bool) → published_members n kept due standing ≡ row_of due kept.kind n kept.release standing kept.version
unfolding published_members
published_row n kept due standing = refl

made_row : (h : History) (p : Pub) → publication_row h p ≡ row_of (objects destined_row (destined h p)) p.kind p.number p.release (stands h p) p.version
unfolding publication_row
made_row h p = refl

module _ (h : History) (n : ℕ) (kept : Published) (due : Items) (still : Bool) where
  -- what is kept of the publication is what is told of it
  pub told_by_number : Some (publication_of n kept) ≡ option_map shown (numbered n (pubs h)) → due ≡ objects destined_row (destinies h n (in_order (subscribers h))) → still ≡ is_some (numbered n (standing h))
      → published_members n kept due still ≡ row_by_number h n
  told_by_number found dues stands_is = by (numbered n (pubs h)) refl found
    where
      by : (o : Option Pub) → numbered n (pubs h) ≡ o → Some (publication_of n kept) ≡ option_map shown o → published_members n kept due still ≡ row_if_there h o
      by None none found = absurd cc
      by (Some p) some found =
          let same : publication_of n kept ≡ shown p = cc in
          let number : n ≡ p.number = λ k. (same k).number in
          let ds : destinies h n (in_order (subscribers h)) ≡ destined h p =
          λ k. flat_map (λ (s : Bytes). option_to_list (option_map (destiny_at h (number k) s) (due_of s (some k)))) (in_order (subscribers h)) in
          let rows : due ≡ objects destined_row (destined h p) = dues ∙ ap (objects destined_row) ds in
          let standing_is : still ≡ stands h p = stands_is ∙ ap (λ (j : ℕ). is_some (numbered j (standing h))) number in
          published_row n kept due still
          ∙ (λ k. row_of (rows k) ((same k).kind) (number k) ((same k).release) (standing_is k) ((same k).version))
          ∙ sym (made_row h p)

-- nothing is told of one that is not there
pub nothing_told : (h : History) (n : ℕ) → None ≡ option_map shown (numbered n (pubs h)) → no_members ≡ row_by_number h n
nothing_told h n none = by (numbered n (pubs h)) none
  where
    by : (o : Option Pub) → None ≡ option_map shown o → no_members ≡ row_if_there h o
    by None none = refl
    by (Some p) none = absurd cc

-- ---- a subscriber more

pub destiny_more : (h : History) (n : ℕ) (names : List Bytes) (s : Bytes) → map destined_row (destinies h n (names ++ s ∷ [])) ≡ map destined_row (destinies h n names) ++ map destined_row (option_to_list (destiny h n s))
destiny_more h n names s =
    ap (map destined_row) (flat_map-append (λ (t : Bytes). option_to_list (destiny h n t)) names (s ∷ []) ∙ ap (λ (l : List Destined). destinies h n names ++ l) (append-nil (option_to_list (destiny h n s))))
    ∙ map-append destined_row (destinies h n names) (option_to_list (destiny h n s))
