-- A log, as its bytes are opened under a header.
use Rattle.std.proofs.Common.{◌≡◌, ◌⊎◌, inl, inr, ℕ, ◌≤◌, ◌-◌, List, [], ◌∷◌, ◌++◌, length, take, drop, map, Some, None, Option, Bool, true, false, refl, sym, ◌∙◌, ap, subst, arith, length-append, take-append-drop}
use Rattle.std.specs.Prelude.{◌==◌, replicate}
use Rattle.std.specs.Cmp.{first_so, second_so}
use Rattle.std.proofs.lemmas.List.{length-take, take_at, length-replicate}
use Rattle.std.proofs.lemmas.Bool.Decides.{nat_tests}
use Rattle.news_journal.specs.Log.{Reading, Holding, Broken, room_head, receiver_head, IsOfForm, IsHead, header_bytes, reading, payloads_of, starts_with, opened}
use Rattle.news_journal.specs.Read.{opened_at}
use Rattle.news_journal.specs.Damage.{misfit, header_damage, damage, damage_of}
use Rattle.news_journal.specs.Opened.{IsLog}
use Rattle.news_journal.specs.Created.{IsDamaged, IsInTheMaking}
use Rattle.news_journal.specs.declared.header.Header.{Header}
use Rattle.news_journal.specs.declared.header.Header.TheVariants.{Room, Receiver}
use Rattle.news_journal.proofs.Forms.{whole}
use Rattle.news_journal.proofs.Made.{new_head}
use Rattle.news_journal.proofs.Fits.{room_fits, receiver_fits, few_bytes}

abbrev payloads_in : List (ℕ × List ℕ) → List (List ℕ)
payloads_in rs = map (λ (r : ℕ × List ℕ). r.1) rs

-- the parts of the damage
no_header_damage : (file : List ℕ) → damage file ≡ None → header_damage (take 64 file) ≡ None
unfolding damage
no_header_damage file none = by_header (header_damage (take 64 file)) refl
  where
    by_header : (d : Option (ℕ × Option ℕ)) → header_damage (take 64 file) ≡ d → header_damage (take 64 file) ≡ None
    by_header None is = is
    by_header (Some found) is = absurd (cc (rw is at none))

no_damage : (file : List ℕ) → header_damage (take 64 file) ≡ None → damage_of (reading (length file) 64 (drop 64 file)) ≡ None → damage file ≡ None
unfolding damage
no_damage file header behind = rw (header, behind) refl

header_long : (head : List ℕ) → header_damage head ≡ None → length head ≤ 64 → length head ≡ 64
header_long head form most = let enough = whole head form in omega (arith, enough)

-- a log opens to its payloads
pub log_opens : (header : Header) (rs : List (ℕ × List ℕ)) (file : List ℕ) → IsLog header rs file → opened (take 64 file) file ≡ Some (map (λ (r : ℕ × List ℕ). r.1) rs)
log_opens header rs file log =
    let head = take 64 file in
    let form : header_damage head ≡ None = no_header_damage file log.whole in
    let long : length head ≡ 64 = header_long head form (omega (arith, length-take 64 file)) in
    let split : file ≡ head ++ drop 64 file = sym (take-append-drop 64 file) in
    ap (opened head) split ∙ opened_at head (drop 64 file)
    ∙ ap (λ (l : List ℕ). payloads_of (reading (length l) (length head) (drop 64 file))) (sym split)
    ∙ ap (λ (n : ℕ). payloads_of (reading (length file) n (drop 64 file))) long
    ∙ ap payloads_of log.reads

split_start : (head file : List ℕ) → starts_with head file ≡ true → (rest : List ℕ) × (file ≡ head ++ rest)
split_start [] file is = (file, refl)
split_start (x ∷ head) [] is = absurd (cc is)
split_start (x ∷ head) (y ∷ file) is =
    let same = equal x y (first_so (x == y) (starts_with head file) is) in
    let more = split_start head file (second_so (x == y) (starts_with head file) is) in
    (more.0, ap (λ (b : ℕ). b ∷ file) (sym same) ∙ ap (λ (l : List ℕ). x ∷ l) more.1)
  where
    equal : (a b : ℕ) → (a == b) ≡ true → a ≡ b
    equal a b is = grind (arith, nat_tests)

-- what is read and opens to payloads
record Read (at : ℕ) (bytes : List ℕ) (ps : List (List ℕ)) (n : ℕ) : Type 0 where
  rs : List (ℕ × List ℕ)
  reads : reading n at bytes ≡ Holding rs
  payloads : map (λ (r : ℕ × List ℕ). r.1) rs ≡ ps

read_of : (n at : ℕ) (bytes : List ℕ) (ps : List (List ℕ)) → payloads_of (reading n at bytes) ≡ Some ps → Read at bytes ps n
read_of n at bytes ps is = by_reading (reading n at bytes) refl
  where
    by_reading : (r : Reading) → reading n at bytes ≡ r → Read at bytes ps n
    by_reading (Holding rs) same = record { rs = rs; reads = same; payloads = cc (rw same at is) }
    by_reading (Broken place found) same = absurd (cc (rw same at is))

-- what opens to payloads is a log with them
pub record OpensAs (header : Header) (ps : List (List ℕ)) (file : List ℕ) : Type 0 where
  pub rs : List (ℕ × List ℕ)
  pub log : IsLog header rs file
  pub payloads : map (λ (r : ℕ × List ℕ). r.1) rs ≡ ps

-- every header that the code holds is of the form
pub form_fits : (header : Header) (head : List ℕ) → IsOfForm header → IsHead header head → header_damage head ≡ None
form_fits (Room store) head long is = ap header_damage is.4 ∙ room_fits is.0 is.1 store is.2 is.3 long
form_fits (Receiver name) head form is = ap header_damage is.2 ∙ receiver_fits is.0 name is.1 form

pub length-head : (header : Header) (head : List ℕ) → IsOfForm header → IsHead header head → length head ≡ 64
unfolding room_head receiver_head
length-head (Room store) head long is =
    omega (arith, ap length is.4, length-append is.1 (store ++ replicate 32 0), length-append store (replicate 32 0), is.3, long)
length-head (Receiver name) head form is =
    omega (arith, ap length is.2, length-append name (replicate (32 - length name) 0), length-replicate {A = ℕ} (32 - length name) 0, few_bytes name form)

pub opens_log : (header : Header) (head : List ℕ) (ps : List (List ℕ)) (file : List ℕ) → IsOfForm header → IsHead header head → opened head file ≡ Some ps → OpensAs header ps file
unfolding opened
opens_log header head ps file form of is = by_start (starts_with head file) refl
  where
    by_start : (b : Bool) → starts_with head file ≡ b → OpensAs header ps file
    by_start false other = absurd (cc (rw other at is))
    by_start true same =
        let long = length-head header head form of in
        let s = split_start head file same in
        let begins : take 64 file ≡ head = ap (take 64) s.1 ∙ take_at head s.0 64 long in
        let at_64 = ap (λ (n : ℕ). payloads_of (reading (length file) n (drop n file))) (sym long) ∙ (rw same at is) in
        let r = read_of (length file) 64 (drop 64 file) ps at_64 in
        let fits = subst (λ (l : List ℕ). header_damage l ≡ None) (sym begins) (form_fits header head form of) in
        record { rs = r.rs; log = record { whole = no_damage file fits (ap damage_of r.reads); head = subst (IsHead header) (sym begins) of; reads = r.reads }; payloads = r.payloads }

-- what is damaged opens to no list
pub damaged_opens : (header : Header) (head file : List ℕ) → IsOfForm header → IsHead header head → IsDamaged file → opened head file ≡ None
damaged_opens header head file form of bad = by_list (opened head file) refl
  where
    by_list : (found : Option (List (List ℕ))) → opened head file ≡ found → opened head file ≡ None
    by_list None is = is
    by_list (Some ps) is = let whole = (opens_log header head ps file form of is).log.whole in absurd (cc (whole, bad.1))

nothing_damaged : damage [] ≡ Some (0, None)
unfolding damage header_damage misfit
nothing_damaged = refl

-- a log in the making opens to no list, or to an empty one
pub making_opens : (header : Header) (file : List ℕ) → IsOfForm header → IsInTheMaking header file → (opened (header_bytes header) file ≡ None) ⊎ (opened (header_bytes header) file ≡ Some [])
making_opens header file form (inl empty) = inl (damaged_opens header (header_bytes header) file form (new_head header) ((0, None), ap damage empty ∙ nothing_damaged))
making_opens header file form (inr (inl bad)) = inl (damaged_opens header (header_bytes header) file form (new_head header) bad)
making_opens header file form (inr (inr log)) = inr (ap (λ (head : List ℕ). opened head file) (sym log.1) ∙ log_opens header [] file log.0)
