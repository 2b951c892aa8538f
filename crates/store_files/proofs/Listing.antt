-- The entries of a list, oldest first, and its records one by one.
use Rattle.std.proofs.Common.{◌≡◌, ◌⊎◌, inl, inr, ℕ, ◌≤◌, List, [], ◌∷◌, ◌++◌, map, refl, sym, ◌∙◌, ap, subst, arith, append_assoc, append-nil}
use Rattle.news_types.specs.Names.{Bytes}
use Rattle.news_types.specs.History.{History}
use Rattle.news_types.specs.Legal.{IsLegal}
use Rattle.news_types.specs.Members.{Each}
use Rattle.news_types.specs.Doubt as doubt
use Rattle.news_types.specs.declared.entry.Entry.{Entry}
use Rattle.entry_codec.specs.Spelling.{entry_bytes}
use Rattle.entry_codec.specs.Formed.{IsEntry}
use Rattle.entry_segments.specs.Segment.{InTime}
use Rattle.news_room.specs.Log.{IsStored}
use Rattle.news_room.proofs.Lists.{last_is}

-- the entries of a list, oldest first
abbrev pub forward : History → List Entry
forward [] = []
forward (e ∷ h) = forward h ++ e ∷ []

pub forward_payloads : (h : History) → doubt.payloads entry_bytes h ≡ map entry_bytes (forward h)
forward_payloads [] = refl
forward_payloads (e ∷ h) = ap (λ (l : List Bytes). l ++ entry_bytes e ∷ []) (forward_payloads h) ∙ sym (map_push (forward h) e)
  where
    map_push : (es : List Entry) (e : Entry) → map entry_bytes (es ++ e ∷ []) ≡ map entry_bytes es ++ entry_bytes e ∷ []
    map_push [] e = refl
    map_push (x ∷ es) e = ap (λ (l : List Bytes). entry_bytes x ∷ l) (map_push es e)

each_push : (es : List Entry) (e : Entry) → Each IsEntry es → IsEntry e → Each IsEntry (es ++ e ∷ [])
each_push [] e each fits = (fits, tt)
each_push (x ∷ es) e each fits = (each.0, each_push es e each.1 fits)

pub forward_each : (h : History) → Each IsEntry h → Each IsEntry (forward h)
forward_each [] each = tt
forward_each (e ∷ h) each = each_push (forward h) e (forward_each h each.1) each.0

in_time_push : (before : ℕ) (es : List Entry) (e next : Entry) → InTime before (es ++ e ∷ []) → e.moment ≤ next.moment → InTime before ((es ++ e ∷ []) ++ next ∷ [])
in_time_push before [] e next in_time later = (in_time.0, (later, tt))
in_time_push before (x ∷ es) e next in_time later = (in_time.0, in_time_push x.moment es e next in_time.1 later)

pub forward_in_time : (h : History) → IsLegal h → InTime 0 (forward h)
forward_in_time [] legal = tt
forward_in_time (e ∷ []) legal = (omega arith, tt)
forward_in_time (e ∷ f ∷ h) legal = in_time_push 0 (forward h) f e (forward_in_time (f ∷ h) legal.0) legal.1

-- ---- a record of a list

-- the last of some
record HasLast (xs : List Bytes) : Type 0 where
  front : List Bytes
  last : Bytes
  are : xs ≡ front ++ last ∷ []

last_of : (x : Bytes) (xs : List Bytes) → HasLast (x ∷ xs)
last_of x [] = record { front = []; last = x; are = refl }
last_of x (y ∷ xs) = let more = last_of y xs in record { front = x ∷ more.front; last = more.last; are = ap (λ (l : List Bytes). x ∷ l) more.are }

-- a record of a list is an entry that may follow those before it
pub record IsMember (before : List Bytes) (x : Bytes) : Type 0 where
  pub list : History
  pub entry : Entry
  pub kept : IsStored (entry ∷ list)
  pub list_is : doubt.payloads entry_bytes list ≡ before
  pub entry_is : entry_bytes entry ≡ x

never_empty : (xs : List Bytes) (x : Bytes) (ys : List Bytes) → [] ≡ xs ++ x ∷ ys → ⊥
never_empty [] x ys is = cc is
never_empty (z ∷ xs) x ys is = cc is

pub member : (h : History) (before : List Bytes) (x : Bytes) (after : List Bytes) → IsStored h → doubt.payloads entry_bytes h ≡ before ++ x ∷ after → IsMember before x
member [] before x after kept are = absurd (never_empty before x after are)
member (e ∷ h) before x [] kept are =
    let both = last_is (doubt.payloads entry_bytes h) before (entry_bytes e) x are in
    record { list = h; entry = e; kept = kept; list_is = both.0; entry_is = both.1 }
member (e ∷ h) before x (y ∷ after) kept are =
    let l = last_of y after in
    let split : before ++ x ∷ (y ∷ after) ≡ (before ++ x ∷ l.front) ++ l.last ∷ [] = ap (λ (ys : List Bytes). before ++ x ∷ ys) l.are ∙ sym (append_assoc before (x ∷ l.front) (l.last ∷ [])) in
    let both = last_is (doubt.payloads entry_bytes h) (before ++ x ∷ l.front) (entry_bytes e) l.last (are ∙ split) in
    member h before x l.front (record { legal = kept.legal.0; formed = kept.formed.1 }) both.0
