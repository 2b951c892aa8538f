-- The readers of a package are found among all subscribers.
use Rattle.std.proofs.Common.{◌≡◌, ℕ, suc, ◌+◌, ◌<◌, ◌≤◌, Bool, true, false, cond, List, [], ◌∷◌, ◌++◌, length, take, get_or, refl, sym, ap, subst, ◌∙◌, append-nil, arith}
use Rattle.std.specs.List.{filter}
use Rattle.std.proofs.lemmas.List.{take_all, take_more, map-append}
use Rattle.std.proofs.lemmas.List.Elements.{filter-append}
use Rattle.news_types.specs.declared.query.Answer.TheVariants as told
use Rattle.news_types.specs.declared.query.Query.TheVariants as query
use Rattle.news_types.specs.declared.query.QueueRow.{QueueRow}
use Rattle.news_types.specs.Names.{Bytes}
use Rattle.news_types.specs.History.{History}
use Rattle.news_types.specs.Legal.{IsLegal}
use Rattle.news_types.specs.Products.{subscribers}
use Rattle.news_types.specs.Answers.{in_order, put_name, query_answer, queue_rows}
use Rattle.news_types.proofs.Limits.{subscribers_limited}
use Rattle.news_types.proofs.Bounds.{filter_length}
use Rattle.package_members.specs.declared.member.Member.{Member}
use Rattle.package_rules.specs.Readers.{has_all, readers}
use Rattle.package_rules.specs.Finding.{names_of}

-- ---- the subscribers

pub queue_only : (h : History) (rows : List QueueRow) (frames : Bytes → ℕ → Bytes) → told.Queue rows ≡ query_answer frames h query.Queue → rows ≡ queue_rows h (in_order (subscribers h))
queue_only h rows frames is = cc

queue_names : (h : History) (names : List Bytes) → names_of (queue_rows h names) ≡ names
queue_names h [] = refl
queue_names h (s ∷ names) = ap (λ (l : List Bytes). s ∷ l) (queue_names h names)

pub names_are : (h : History) (rows : List QueueRow) → rows ≡ queue_rows h (in_order (subscribers h)) → names_of rows ≡ in_order (subscribers h)
names_are h rows is = ap names_of is ∙ queue_names h (in_order (subscribers h))

module _ (h : History) (members : List Member) (rows : List QueueRow) where
  -- of the first subscribers, so many, those who have all members
  abbrev pub Found : ℕ → List Bytes → Type 0
  Found i names = names ≡ filter (has_all h members) (names_of (take i rows))

  pub none_found : (names : List Bytes) → names ≡ [] → Found 0 names
  none_found names none = none

  one_more : (i : ℕ) (row : QueueRow) → i < length rows → row ≡ get_or rows i row → names_of (take (i + 1) rows) ≡ names_of (take i rows) ++ row.subscriber ∷ []
  one_more i row within is =
      ap names_of (take_more rows i row within) ∙ map-append (λ (r : QueueRow). r.subscriber) (take i rows) (get_or rows i row ∷ [])
      ∙ ap (λ (r : QueueRow). names_of (take i rows) ++ r.subscriber ∷ []) (sym is)

  found_next : (i : ℕ) (row : QueueRow) (b : Bool) → i < length rows → row ≡ get_or rows i row → has_all h members row.subscriber ≡ b
      → filter (has_all h members) (names_of (take (i + 1) rows)) ≡ filter (has_all h members) (names_of (take i rows)) ++ cond b (row.subscriber ∷ []) []
  found_next i row b within is has =
      ap (filter (has_all h members)) (one_more i row within is) ∙ filter-append (has_all h members) (names_of (take i rows)) (row.subscriber ∷ [])
      ∙ ap (λ (t : Bool). filter (has_all h members) (names_of (take i rows)) ++ cond t (row.subscriber ∷ []) []) has

  pub one_found : (i : ℕ) (row : QueueRow) (names : List Bytes) → i < length rows → row ≡ get_or rows i row → true ≡ has_all h members row.subscriber → Found i names → Found (i + 1) (names ++ row.subscriber ∷ [])
  one_found i row names within is has so_far = ap (λ (l : List Bytes). l ++ row.subscriber ∷ []) so_far ∙ sym (found_next i row true within is (sym has))

  pub none_more : (i : ℕ) (row : QueueRow) (names : List Bytes) → i < length rows → row ≡ get_or rows i row → false ≡ has_all h members row.subscriber → Found i names → Found (i + 1) names
  none_more i row names within is has so_far = so_far ∙ sym (found_next i row false within is (sym has) ∙ append-nil (filter (has_all h members) (names_of (take i rows))))

  pub all_found : (i : ℕ) (names : List Bytes) → length rows ≤ i → Found i names → names ≡ filter (has_all h members) (names_of rows)
  all_found i names all so_far = so_far ∙ ap (λ (l : List QueueRow). filter (has_all h members) (names_of l)) (take_all i rows all)

-- ---- how many there are

put_length : (s : Bytes) (names : List Bytes) → length (put_name s names) ≡ 1 + length names
put_length s [] = refl
put_length s (t ∷ names) = by _ (put_length s names)
  where
    by : (b : Bool) → length (put_name s names) ≡ 1 + length names → length (cond b (s ∷ t ∷ names) (t ∷ put_name s names)) ≡ 1 + suc (length names)
    by true rest = omega arith
    by false rest = omega (arith, rest)

order_length : (names : List Bytes) → length (in_order names) ≡ length names
order_length [] = refl
order_length (s ∷ names) = omega (arith, put_length s (in_order names), order_length names)

pub few_readers : (h : History) (members : List Member) → IsLegal h → length (readers h members) ≤ 256
few_readers h members legal = omega (arith, filter_length (has_all h members) (in_order (subscribers h)), order_length (subscribers h), subscribers_limited h legal)

pub few_names : (h : History) (members : List Member) (names : List Bytes) → IsLegal h → names ≡ readers h members → length names ≤ 256
few_names h members names legal is = subst (λ (l : List Bytes). length l ≤ 256) (sym is) (few_readers h members legal)
