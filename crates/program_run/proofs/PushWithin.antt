-- What a call keeps stays within the limit of the log, said of lists.
use Rattle.std.proofs.Common.{◌≡◌, ◌⊎◌, inl, inr, ℕ, ◌+◌, ◌≤◌, List, [], ◌∷◌, ◌++◌, Option, Some, None, refl, sym, ap, ◌∙◌, arith, append_assoc}
use Rattle.news_types.specs.declared.entry.Entry.{Entry}
use Rattle.news_types.specs.Names.{Bytes}
use Rattle.news_types.specs.History.{History, moment_at}
use Rattle.news_types.specs.Books.{followed_by}
use Rattle.news_types.specs.Calls as call
use Rattle.news_types.specs.Calls.{IsKept, follow, list_after, more}
use Rattle.news_types.specs.Server.{Server, called, claimed, claimed_at}
use Rattle.news_types.proofs.Books.{behind_more}
use Rattle.news_room.specs.Beside.{Beside}
use Rattle.news_room.specs.Claims.{claim_entries}
use Rattle.news_room.specs.Log.{sizes}
use Rattle.news_room.specs.Stands.{LIMIT}
use Rattle.news_room.specs.Steps.{Given, Failed, Refused, entries}
use Rattle.program_run.specs.Opens.{size_of}
use Rattle.program_run.specs.Pushed.{IsWithin}

-- ---- sizes

pub size_is : (h : History) → size_of h ≡ 65 + sizes h
size_is [] = refl
size_is (e ∷ h) = omega (arith, size_is h)

sizes_behind : (es : List Entry) (h : History) → sizes (followed_by es h) ≡ sizes h + sizes es
sizes_behind [] h = omega arith
sizes_behind (e ∷ es) h = omega (arith, sizes_behind es (e ∷ h))

-- what a keeper uses goes on with the list
pub uses_more : (used later : ℕ) (h : History) (es : List Entry) → used ≡ size_of h → later ≡ used + sizes es → later ≡ size_of (followed_by es h)
uses_more used later h es was grown = omega (arith, was, grown, size_is h, size_is (followed_by es h), sizes_behind es h)

-- ---- lists behind entries

behind_split : (es : List Entry) (h : History) → (later : List Entry) × (followed_by es h ≡ later ++ h)
behind_split [] h = ([], refl)
behind_split (e ∷ es) h = let b = behind_split es (e ∷ h) in (b.0 ++ e ∷ [], b.1 ∙ sym (append_assoc b.0 (e ∷ []) h))

pub goes_behind : (es : List Entry) (h : History) → (later : List Entry) × (followed_by es h ≡ later ++ h)
goes_behind es h = behind_split es h

rest_behind : (should es rest : List Entry) (next : Entry) (h : History) → should ≡ es ++ next ∷ rest → (later : List Entry) × (followed_by should h ≡ later ++ next ∷ followed_by es h)
rest_behind should es rest next h is =
    let b = behind_split rest (next ∷ followed_by es h) in
    (b.0, ap (λ (l : List Entry). followed_by l h) is ∙ sym (behind_more es (next ∷ rest) h) ∙ b.1)

-- ---- where all are kept

kept_list : (h : History) (o : Option Entry) → list_after h o IsKept ≡ followed_by (entries o) h
kept_list h None = refl
kept_list h (Some e) = refl

claim_kept_by : (c : Server) (names : List Bytes) (m : ℕ) (o : Option Entry) → (claimed_at c names m o IsKept IsKept).list ≡ followed_by (entries o ++ entries (follow (more o c.list) (call.Claimed names) m)) c.list
claim_kept_by c names m None = kept_list c.list (follow c.list (call.Claimed names) m)
claim_kept_by c names m (Some e) = kept_list (e ∷ c.list) (follow (e ∷ c.list) (call.Claimed names) m)

pub claim_kept : (c : Server) (names : List Bytes) (at : ℕ) → (claimed c names at IsKept IsKept).list ≡ followed_by (claim_entries c.list names (moment_at c.list at)) c.list
claim_kept c names at = claim_kept_by c names (moment_at c.list at) (follow c.list call.Ticked (moment_at c.list at))

pub receipt_kept : (c : Server) (s : Bytes) (n at : ℕ) → (called c (call.Receipted s n) at IsKept).list ≡ followed_by (entries (follow c.list (call.Receipted s n) (moment_at c.list at))) c.list
receipt_kept c s n at = kept_list c.list (follow c.list (call.Receipted s n) (moment_at c.list at))

-- ---- steps

module _ (n : Beside) (h : History) (was : n.used ≡ size_of h) (should es : List Entry) where
  pub given_within : Given n LIMIT should es → (followed_by es h ≡ h) ⊎ (size_of (followed_by es h) ≤ LIMIT)
  given_within g = given_by es g
    where
      given_by : (xs : List Entry) → Given n LIMIT should xs → (followed_by xs h ≡ h) ⊎ (size_of (followed_by xs h) ≤ LIMIT)
      given_by [] g = inl refl
      given_by (x ∷ xs) g = inr (omega (arith, uses_more n.used n.later_used h (x ∷ xs) was g.whole.grown, g.within))

  pub full_within : (size count : ℕ) (whole : History) → whole ≡ followed_by should h → Refused n LIMIT should es size count → IsWithin h (followed_by es h) whole call.Full
  full_within size count whole is r =
      let rest = rest_behind should es r.rest r.next h r.is in
      (r.next, rest.0, is ∙ rest.1, omega (arith, uses_more n.used n.later_used h es was r.grown, r.past))

  pub failed_within : (whole : History) → whole ≡ followed_by should h → Failed n LIMIT should es → IsWithin h (followed_by es h) whole call.Fault
  failed_within whole is r =
      let rest = rest_behind should es r.rest r.next h r.is in
      (r.next, rest.0, is ∙ rest.1, omega (arith, uses_more n.used n.later_used h es was r.grown, r.fits))
