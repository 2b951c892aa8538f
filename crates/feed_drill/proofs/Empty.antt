-- Receivers that hold nothing.
use Rattle.std.proofs.Common.{◌≡◌, ◌+◌, ◌<◌, ◌||◌, ℕ, zero, suc, Bool, true, false, not, cond, nat_lt, List, [], ◌∷◌, ◌++◌, length, get_or, map, take, Option, Some, None, refl, sym, ap, ◌∙◌, subst, arith}
use Rattle.std.specs.Prelude.{slice_get}
use Rattle.std.specs.List.{AllZip, position_or_len}
use Rattle.std.specs.Option.{option_and_then}
use Rattle.std.proofs.lemmas.Bool.{true≢false}
use Rattle.std.proofs.lemmas.List.{map-append, take_more}
use Rattle.std.proofs.lemmas.Bool.Decides.{nat_tests}
use Rattle.news_types.specs.declared.query.QueueRow.{QueueRow}
use Rattle.news_types.specs.Names.{Bytes, same, is_in}
use Rattle.news_types.specs.Frames.{Frame, frame_bytes}
use Rattle.news_types.specs.History.{History}
use Rattle.news_types.specs.Delivery.{acked}
use Rattle.news_types.proofs.Members.{some_is, none_some}
use Rattle.news_io.specs.Keeper.{KeeperMeaning}
use Rattle.feed_receiver.specs.declared.receiver.Receiver.{Receiver}
use Rattle.feed_receiver.specs.Holds.{Received, Holds, OpensTo}
use Rattle.feed_links.specs.Receivers.{place}
use Rattle.publish_workers.specs.InMemory.{received_by, KeepsPace}
use Rattle.publish_workers.proofs.Passing.{place_name}
use Rattle.feed_drill.specs.Delivery.{empty}

-- ---- opening without a record

no_frames : (frames : List Frame) → [] ≡ map frame_bytes frames → frames ≡ []
no_frames [] is = refl
no_frames (f ∷ frames) is = absurd (none (frame_bytes f) (map frame_bytes frames) is)
  where
    none : (x : Bytes) (xs : List Bytes) → [] ≡ x ∷ xs → ⊥
    none x xs is = cc

pub opened_empty : {K : Type 0} (keeper : KeeperMeaning K) (k : K) (name : Bytes) (r : Receiver K) → OpensTo keeper k name [] r → Holds keeper r (empty name)
opened_empty keeper k name r opens =
    subst (λ (frames : List Frame). Holds keeper r (record { name = name; told = false; frames = frames })) (no_frames opens.frames opens.are) (opens.holds false (λ is. absurd (true≢false (sym is))))

-- ---- one more

pub zip_more : {A B : Type 0} (R : A → B → Type 0) (xs : List A) (ys : List B) (x : A) (y : B) → AllZip R xs ys → R x y → AllZip R (xs ++ x ∷ []) (ys ++ y ∷ [])
zip_more R [] [] x y zip r = (r, tt)
zip_more R [] (b ∷ ys) x y zip r = absurd zip
zip_more R (a ∷ xs) [] x y zip r = absurd zip
zip_more R (a ∷ xs) (b ∷ ys) x y zip r = (zip.0, zip_more R xs ys x y zip.1 r)

-- the names of rows, one more
pub names_more : (rows : List QueueRow) (i : ℕ) (row : QueueRow) (names more : List Bytes) → i < length rows → row ≡ get_or rows i row → names ≡ map (λ (r : QueueRow). r.subscriber) (take i rows) → more ≡ names ++ row.subscriber ∷ []
    → more ≡ map (λ (r : QueueRow). r.subscriber) (take (i + 1) rows)
names_more rows i row names more lt is so_far grown =
    grown ∙ ap (λ (l : List Bytes). l ++ row.subscriber ∷ []) so_far ∙ sym (map-append (λ (r : QueueRow). r.subscriber) (take i rows) (row ∷ []))
    ∙ ap (λ (r : QueueRow). map (λ (x : QueueRow). x.subscriber) (take i rows ++ r ∷ [])) is ∙ ap (map (λ (r : QueueRow). r.subscriber)) (sym (take_more rows i row lt))

-- and the receivers
pub empty_more : {K : Type 0} (keeper : KeeperMeaning K) (receivers more : List (Receiver K)) (names more_names : List Bytes) (r : Receiver K) (s : Bytes) → more ≡ receivers ++ r ∷ [] → more_names ≡ names ++ s ∷ []
    → AllZip (Holds keeper) receivers (map empty names) → Holds keeper r (empty s) → AllZip (Holds keeper) more (map empty more_names)
empty_more {K} keeper receivers more names more_names r s grown grown_names zip holds =
    subst (λ (l : List (Receiver K)). AllZip (Holds keeper) l (map empty more_names)) (sym grown)
    (subst (λ (l : List Received). AllZip (Holds keeper) (receivers ++ r ∷ []) l) (sym (ap (map empty) grown_names ∙ map-append empty names (s ∷ [])))
    (zip_more (Holds keeper) receivers (map empty names) r (empty s) zip holds))

-- ---- they keep pace with feeds of which nothing is acknowledged

get_map : {A B : Type 0} (f : A → B) (xs : List A) (i : ℕ) (x : A) → slice_get xs i ≡ Some x → slice_get (map f xs) i ≡ Some (f x)
get_map f [] i x is = absurd (none_some x is)
get_map f (y ∷ ys) zero x is = ap (λ (z : _). Some (f z)) (some_is y x is)
get_map f (y ∷ ys) (suc i) x is = get_map f ys i x is

found : (s : Bytes) (names : List Bytes) → is_in s names ≡ true → position_or_len (same s) names < length names
found s [] is = absurd (true≢false (sym is))
found s (n ∷ names) is = by (same s n) refl (found s names)
  where
    by : (b : Bool) → same s n ≡ b → (is_in s names ≡ true → position_or_len (same s) names < length names) → position_or_len (same s) (n ∷ names) < length (n ∷ names)
    by true alike rest =
        let at : position_or_len (same s) (n ∷ names) ≡ 0 = ap (λ (b : Bool). cond (not b) (1 + position_or_len (same s) names) 0) alike in
        omega (arith, at)
    by false other rest =
        let at : position_or_len (same s) (n ∷ names) ≡ 1 + position_or_len (same s) names = ap (λ (b : Bool). cond (not b) (1 + position_or_len (same s) names) 0) other in
        let later = rest (sym (ap (λ (b : Bool). b || is_in s names) other) ∙ is) in
        omega (arith, at, later)

place_found : (s : Bytes) (names : List Bytes) → is_in s names ≡ true → place s names ≡ Some (position_or_len (same s) names)
place_found s names is =
    let lt = found s names is in
    let yes : nat_lt (position_or_len (same s) names) (length names) ≡ true = grind (arith, nat_tests, lt) in
    ap (λ (b : Bool). cond b (Some (position_or_len (same s) names)) None) yes

received_empty : (names : List Bytes) (s : Bytes) → is_in s names ≡ true → received_by names (map empty names) s ≡ Some (empty s)
received_empty names s is =
    let at : ℕ = position_or_len (same s) names in
    let here = place_found s names is in
    ap (λ (o : Option ℕ). option_and_then (slice_get (map empty names)) o) here ∙ get_map empty names at s (place_name s names at here)

pub keeps_pace : (h : History) (names : List Bytes) (s : Bytes) → is_in s names ≡ true → acked h s ≡ 0 → KeepsPace h names (map empty names) s
keeps_pace h names s is none = record { receiver = empty s; there = received_empty names s is; name = refl; least = omega (arith, none); most = omega arith }
