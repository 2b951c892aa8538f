-- What is ahead of a reader, byte by byte and piece by piece.
use Rattle.std.proofs.Common.{◌≡◌, ◌≢◌, ℕ, suc, ◌+◌, ◌-◌, ◌<◌, ◌≤◌, cond, List, [], ◌∷◌, ◌++◌, length, take, drop, get_or, Option, Some, None, refl, sym, ap, subst, ◌∙◌, arith, inl, inr, length-append, append_assoc, length-drop}
use Rattle.std.proofs.Math.Seq.{take-append_seam}
use Rattle.std.proofs.lemmas.List.{take_more, drop_more, take-append-drop, length-take-le}
use Rattle.std.proofs.lemmas.Bool.{cases_eq, eq-eqb, ne_eqb, le-ltb, lt-ltb}
use Rattle.text7901.specs.declared.found.What.{What}
use Rattle.text7901.specs.declared.found.What.TheVariants.{TooLong}
use Rattle.text7901.specs.declared.found.Found.{Found}
use Rattle.text7901.specs.declared.found.Found.TheVariants.{Story, Fault}
use Rattle.text7901.specs.declared.phase.Phase.{Phase}
use Rattle.text7901.specs.declared.phase.Phase.TheVariants.{Source}
use Rattle.text7901.specs.declared.phase.Step.{Step}
use Rattle.text7901.specs.declared.phase.Step.TheVariants.{Go, Bad, Ends}
use Rattle.text7901.specs.declared.reach.Turn.TheVariants.{On, Over}
use Rattle.text7901.specs.Fields.{incoming}
use Rattle.text7901.specs.Wire.{End, chunk, said_of, size_of, judged, member_by, member, wire_from}
use Rattle.text7901.specs.Machine.{step, at_end, turn, within_size, Leads, EndsIn, IsReach}
use Rattle.text7901.specs.State.{IsOpen, ahead_of, closing}
use Rattle.text7901.specs.declared.reach.Reach.TheVariants.{Open}
use Rattle.text7901.proofs.Parts.{IsWithout, IsPlace}
use Rattle.text7901.proofs.Runs.{run, after, run_message, run_left}

abbrev runs_on : ℕ → List ℕ → Step → End
runs_on b bytes s = after s (suc (length bytes)) (λ q. run q bytes)

leads_run : (p q : Phase) (held more : List ℕ) → Leads p held q → run p (held ++ more) ≡ run q more
leads_run p q [] more h = ap (λ r. run r more) h
leads_run p q (b ∷ held) more h = ap (runs_on b (held ++ more)) h.2 ∙ leads_run h.1 q held more h.3

pub leads_more : (p q r : Phase) (held : List ℕ) (b : ℕ) → b ≢ 1 → Leads p held q → step q b ≡ Go r → Leads p (held ++ b ∷ []) r
leads_more p q r [] b other h e = (other, r, subst (λ x. step x b ≡ Go r) (sym h) e, refl)
leads_more p q r (c ∷ held) b other h e = (h.0, h.1, h.2, leads_more h.1 q r held b other h.3 e)

chunk_held : (p q : Phase) (held more : List ℕ) → Leads p held q → chunk (held ++ more) ≡ held ++ chunk more
chunk_held p q [] more h = refl
chunk_held p q (b ∷ held) more h = rw (ne_eqb b 1 h.0) (ap (λ z. b ∷ z) (chunk_held h.1 q held more h.3))

wire_held : (p q : Phase) (held more : List ℕ) (at : ℕ) → Leads p held q → wire_from at (held ++ more) ≡ wire_from (at + length held) more
wire_held p q [] more at h = ap (λ n. wire_from n more) (omega arith)
wire_held p q (b ∷ held) more at h = rw (ne_eqb b 1 h.0) (wire_held h.1 q held more (at + 1) h.3 ∙ ap (λ n. wire_from n more) (omega arith))

-- the message is in this phase with so many bytes of it held
abbrev start_of : ℕ → List ℕ → ℕ
start_of at held = at - (length held + 1)

-- ---- members

member_is : (at : ℕ) (q : Phase) (held more : List ℕ) → Leads (Source 0) held q → member at (held ++ more) ≡ member_by at (held ++ more) (run q more)
member_is at q held more h = ap (member_by at (held ++ more)) (sym (run_message (held ++ more)) ∙ leads_run (Source 0) q held more h)

short : (at : ℕ) (bytes : List ℕ) (w : Option What) (left end : ℕ) → size_of w left end ≤ 131071 → judged at bytes w left end ≡ said_of at bytes w end
short at bytes w left end le = ap (λ t. cond t (Fault (at + 131072) TooLong) (said_of at bytes w end)) (le-ltb 131071 (size_of w left end) le)

long : (at : ℕ) (bytes : List ℕ) (w : Option What) (left end : ℕ) → 131071 < size_of w left end → judged at bytes w left end ≡ Fault (at + 131072) TooLong
long at bytes w left end lt = ap (λ t. cond t (Fault (at + 131072) TooLong) (said_of at bytes w end)) (lt-ltb 131071 (size_of w left end) lt)

closes : (at : ℕ) (held more : List ℕ) (w : Option What) → length held < at → said_of (start_of at held) (held ++ more) w (length held) ≡ closing at held w
closes at held more None lt = ap (λ z. Story (incoming z)) (take-append_seam held more)
closes at held more (Some w) lt = ap (λ n. Fault n w) (omega (arith, lt))

-- a member whose end shows behind what is held
ends_here : (at : ℕ) (q : Phase) (held more : List ℕ) (w : Option What) (left : ℕ) → IsOpen at (Some q) held → run q more ≡ record { what = w; left = left } → left ≡ length more
    → size_of w left (length held) ≤ 131071
    → member (start_of at held) (held ++ more) ≡ closing at held w
ends_here at q held more w left h e n le =
    let place : length (held ++ more) - left ≡ length held = omega (arith, n, length-append held more) in
    member_is (start_of at held) q held more h.2
    ∙ ap (member_by (start_of at held) (held ++ more)) e
    ∙ ap (judged (start_of at held) (held ++ more) w left) place
    ∙ short (start_of at held) (held ++ more) w left (length held) le
    ∙ closes at held more w h.0

size_above : (w : Option What) (left end : ℕ) → 131071 < end → 131071 < size_of w left end
size_above None left end lt = omega (arith, lt)
size_above (Some w) left end lt = lt

too_long : (at : ℕ) (q r : Phase) (held more : List ℕ) (b : ℕ) → IsOpen at (Some q) held → length held ≡ 131071 → step q b ≡ Go r
    → member (start_of at held) (held ++ b ∷ more) ≡ closing at held (Some TooLong)
too_long at q r held more b h e s =
    let left = run_left r more in
    let place : start_of at held + 131072 ≡ at = omega (arith, h.0, e) in
    let far : 131071 < length (held ++ b ∷ more) - (run r more).left = omega (arith, e, left, length-append held (b ∷ more)) in
    member_is (start_of at held) q held (b ∷ more) h.2
    ∙ ap (λ x. member_by (start_of at held) (held ++ b ∷ more) (runs_on b more x)) s
    ∙ long (start_of at held) (held ++ b ∷ more) (run r more).what (run r more).left (length (held ++ b ∷ more) - (run r more).left) (size_above (run r more).what (run r more).left (length (held ++ b ∷ more) - (run r more).left) far)
    ∙ ap (λ n. Fault n TooLong) place

-- an EOT that a message has no room for
eot_too_long : (at : ℕ) (q : Phase) (held more : List ℕ) (b : ℕ) → IsOpen at (Some q) held → length held ≡ 131071 → step q b ≡ Ends
    → member (start_of at held) (held ++ b ∷ more) ≡ closing at held (Some TooLong)
eot_too_long at q held more b h e s =
    let place : start_of at held + 131072 ≡ at = omega (arith, h.0, e) in
    let end : length (held ++ b ∷ more) - suc (length more) ≡ length held = omega (arith, length-append held (b ∷ more)) in
    let far : 131071 < size_of None (suc (length more)) (length held) = omega (arith, e) in
    member_is (start_of at held) q held (b ∷ more) h.2
    ∙ ap (λ x. member_by (start_of at held) (held ++ b ∷ more) (runs_on b more x)) s
    ∙ ap (judged (start_of at held) (held ++ b ∷ more) None (suc (length more))) end
    ∙ long (start_of at held) (held ++ b ∷ more) None (suc (length more)) (length held) far
    ∙ ap (λ n. Fault n TooLong) place

-- ---- what is ahead

-- a byte that is no SOH comes to a message
opened : (at : ℕ) (q : Phase) (held more : List ℕ) (b : ℕ) → b ≢ 1 → IsOpen at (Some q) held
    → ahead_of at (Some q) held (b ∷ more) ≡ member (start_of at held) (held ++ b ∷ chunk more) ∷ wire_from (at + 1) more
opened at q held more b other h =
    let first : chunk (b ∷ more) ≡ b ∷ chunk more = rw (ne_eqb b 1 other) refl in
    let body = chunk_held (Source 0) q held (b ∷ more) h.2 ∙ ap (λ z. held ++ z) first in
    let rest = wire_held (Source 0) q held (b ∷ more) (start_of at held + 1) h.2 in
    let one : wire_from (start_of at held + 1 + length held) (b ∷ more) ≡ wire_from (start_of at held + 1 + length held + 1) more = rw (ne_eqb b 1 other) refl in
    let place : start_of at held + 1 + length held + 1 ≡ at + 1 = omega (arith, h.0) in
    both (ap (member (start_of at held)) body) (rest ∙ one ∙ ap (λ n. wire_from n more) place)
  where
    both : {x y : Found} {xs ys : List Found} → x ≡ y → xs ≡ ys → x ∷ xs ≡ y ∷ ys
    both e f = cc

-- a byte that ends it, at the place of what follows
bad : (at : ℕ) (q : Phase) (held more : List ℕ) (b : ℕ) (w : What) → b ≢ 1 → IsOpen at (Some q) held → step q b ≡ Bad w
    → ahead_of at (Some q) held (b ∷ more) ≡ closing at held (Some w) ∷ wire_from (at + 1) more
bad at q held more b w other h e =
    opened at q held more b other h ∙ ap (λ m. m ∷ wire_from (at + 1) more) (ends_here at q held (b ∷ chunk more) (Some w) (suc (length (chunk more))) h (ap (runs_on b (chunk more)) e) refl h.1)

ends : (at : ℕ) (q : Phase) (held more : List ℕ) (b : ℕ) → b ≢ 1 → IsOpen at (Some q) held → length held < 131071 → step q b ≡ Ends
    → ahead_of at (Some q) held (b ∷ more) ≡ closing at held None ∷ wire_from (at + 1) more
ends at q held more b other h lt e =
    let le : size_of None (suc (length (chunk more))) (length held) ≤ 131071 = omega (arith, lt) in
    opened at q held more b other h ∙ ap (λ m. m ∷ wire_from (at + 1) more) (ends_here at q held (b ∷ chunk more) None (suc (length (chunk more))) h (ap (runs_on b (chunk more)) e) refl le)

pub over : (at : ℕ) (q r : Phase) (held more : List ℕ) (b : ℕ) → b ≢ 1 → IsOpen at (Some q) held → length held ≡ 131071 → step q b ≡ Go r
    → ahead_of at (Some q) held (b ∷ more) ≡ closing at held (Some TooLong) ∷ wire_from (at + 1) more
over at q r held more b other h e s = opened at q held more b other h ∙ ap (λ m. m ∷ wire_from (at + 1) more) (too_long at q r held (chunk more) b h e s)

eot_over : (at : ℕ) (q : Phase) (held more : List ℕ) (b : ℕ) → b ≢ 1 → IsOpen at (Some q) held → length held ≡ 131071 → step q b ≡ Ends
    → ahead_of at (Some q) held (b ∷ more) ≡ closing at held (Some TooLong) ∷ wire_from (at + 1) more
eot_over at q held more b other h e s = opened at q held more b other h ∙ ap (λ m. m ∷ wire_from (at + 1) more) (eot_too_long at q held (chunk more) b h e s)

size_at_end : (w : Option What) (end : ℕ) → end ≤ 131071 → size_of w 0 end ≤ 131071
size_at_end None end le = omega (arith, le)
size_at_end (Some w) end le = le

-- a SOH ends it
next_soh : (at : ℕ) (q : Phase) (held more : List ℕ) → IsOpen at (Some q) held
    → ahead_of at (Some q) held (1 ∷ more) ≡ closing at held (at_end q) ∷ wire_from at (1 ∷ more)
next_soh at q held more h =
    let body = chunk_held (Source 0) q held (1 ∷ more) h.2 in
    let rest = wire_held (Source 0) q held (1 ∷ more) (start_of at held + 1) h.2 in
    let place : start_of at held + 1 + length held ≡ at = omega (arith, h.0) in
    both (ap (member (start_of at held)) body ∙ ends_here at q held [] (at_end q) 0 h refl refl (size_at_end (at_end q) (length held) h.1)) (rest ∙ ap (λ n. wire_from n (1 ∷ more)) place)
  where
    both : {x y : Found} {xs ys : List Found} → x ≡ y → xs ≡ ys → x ∷ xs ≡ y ∷ ys
    both e f = cc

-- the end of input ends it
pub last_of : (at : ℕ) (q : Phase) (held : List ℕ) → IsOpen at (Some q) held → ahead_of at (Some q) held [] ≡ closing at held (at_end q) ∷ []
last_of at q held h =
    let body = chunk_held (Source 0) q held [] h.2 in
    let rest = wire_held (Source 0) q held [] (start_of at held + 1) h.2 in
    both (ap (member (start_of at held)) body ∙ ends_here at q held [] (at_end q) 0 h refl refl (size_at_end (at_end q) (length held) h.1)) rest
  where
    both : {x y : Found} {xs ys : List Found} → x ≡ y → xs ≡ ys → x ∷ xs ≡ y ∷ ys
    both e f = cc

-- ---- turns

skipped : (at b : ℕ) (more : List ℕ) → b ≢ 1 → wire_from (at + 1) more ≡ wire_from at (b ∷ more)
skipped at b more other = rw (ne_eqb b 1 other) refl

turn_other : (q : Phase) (n b : ℕ) → b ≢ 1 → turn q n b ≡ within_size n (step q b)
turn_other q n b other = rw (ne_eqb b 1 other) refl

turn_soh : (q : Phase) (n b : ℕ) → b ≡ 1 → turn q n b ≡ Over (at_end q)
turn_soh q n b e = rw (eq-eqb b 1 e) refl

-- what a byte ends in a step of each kind
over_step : (at : ℕ) (q : Phase) (held more : List ℕ) (b : ℕ) (what : Option What) (s : Step) → b ≢ 1 → IsOpen at (Some q) held → step q b ≡ s → within_size (length held) s ≡ Over what
    → ahead_of at (Some q) held (b ∷ more) ≡ closing at held what ∷ wire_from (at + 1) more
over_step at q held more b what (Bad w) other h e t =
    let same : Some w ≡ what = cc in
    bad at q held more b w other h e ∙ ap (λ z. closing at held z ∷ wire_from (at + 1) more) same
over_step at q held more b what (Go r) other h e t =
    elim (cases_eq (length held) 131071) [
      | inl full ↦
          let there = ap (λ z. cond z (Over (Some TooLong)) (On r)) (eq-eqb (length held) 131071 full) in
          let same : Some TooLong ≡ what = cc in
          over at q r held more b other h full e ∙ ap (λ z. closing at held z ∷ wire_from (at + 1) more) same
      | inr room ↦
          let there = ap (λ z. cond z (Over (Some TooLong)) (On r)) (ne_eqb (length held) 131071 room) in
          cc
    ]
over_step at q held more b what Ends other h e t =
    elim (cases_eq (length held) 131071) [
      | inl full ↦
          let there = ap (λ z. cond z (Over (Some TooLong)) (Over None)) (eq-eqb (length held) 131071 full) in
          let same : Some TooLong ≡ what = cc in
          eot_over at q held more b other h full e ∙ ap (λ z. closing at held z ∷ wire_from (at + 1) more) same
      | inr room ↦
          let there = ap (λ z. cond z (Over (Some TooLong)) (Over None)) (ne_eqb (length held) 131071 room) in
          let same : what ≡ None = cc in
          ends at q held more b other h (omega (arith, h.1, room)) e ∙ ap (λ z. closing at held z ∷ wire_from (at + 1) more) (sym same)
    ]

-- a byte with which a message is over
over_byte : (at : ℕ) (q : Phase) (held more : List ℕ) (b : ℕ) (what : Option What) → IsOpen at (Some q) held → turn q (length held) b ≡ Over what
    → ahead_of at (Some q) held (b ∷ more) ≡ closing at held what ∷ wire_from at (b ∷ more)
over_byte at q held more b what h t =
    elim (cases_eq b 1) [
      | inl e ↦
          let soh = turn_soh q (length held) b e in
          let same : at_end q ≡ what = cc in
          ap (λ z. ahead_of at (Some q) held (z ∷ more)) e ∙ next_soh at q held more h ∙ ap (λ z. closing at held z ∷ wire_from at (1 ∷ more)) same ∙ ap (λ z. closing at held what ∷ wire_from at (z ∷ more)) (sym e)
      | inr other ↦
          over_step at q held more b what (step q b) other h refl (sym (turn_other q (length held) b other) ∙ t) ∙ ap (λ z. closing at held what ∷ z) (skipped at b more other)
    ]

on_step : (n : ℕ) (s : Step) (r : Phase) → within_size n s ≡ On r → (s ≡ Go r) × (n ≢ 131071)
on_step n (Bad w) r t = cc
on_step n (Go q) r t =
    elim (cases_eq n 131071) [
      | inl full ↦ let there = ap (λ z. cond z (Over (Some TooLong)) (On q)) (eq-eqb n 131071 full) in cc
      | inr room ↦ let there = ap (λ z. cond z (Over (Some TooLong)) (On q)) (ne_eqb n 131071 room) in let same : q ≡ r = cc in (ap Go same, room)
    ]
on_step n Ends r t =
    elim (cases_eq n 131071) [
      | inl full ↦ let there = ap (λ z. cond z (Over (Some TooLong)) (Over None)) (eq-eqb n 131071 full) in cc
      | inr room ↦ let there = ap (λ z. cond z (Over (Some TooLong)) (Over None)) (ne_eqb n 131071 room) in cc
    ]

-- a byte with which it goes on
pub turn_on : (q r : Phase) (n b : ℕ) → turn q n b ≡ On r → (b ≢ 1) × (step q b ≡ Go r) × (n ≢ 131071)
turn_on q r n b t =
    elim (cases_eq b 1) [
      | inl e ↦ let soh = turn_soh q n b e in cc
      | inr other ↦ let h = on_step n (step q b) r (sym (turn_other q n b other) ∙ t) in (other, h.0, h.1)
    ]

pub leads_on : (p q r : Phase) (piece : List ℕ) (i held b : ℕ) → i < length piece → b ≡ get_or piece i 0 → Leads p (take i piece) q → turn q (held + i) b ≡ On r
    → Leads p (take (i + 1) piece) r
leads_on p q r piece i held b l e h t =
    let one = turn_on q r (held + i) b t in
    subst (λ z. Leads p z r) (ap (λ z. take i piece ++ z ∷ []) e ∙ sym (take_more piece i 0 l)) (leads_more p q r (take i piece) b one.0 h one.1)

-- ---- pieces

leads_join : (p q r : Phase) (xs ys : List ℕ) → Leads p xs q → Leads q ys r → Leads p (xs ++ ys) r
leads_join p q r [] ys h k = subst (λ z. Leads z ys r) (sym h) k
leads_join p q r (b ∷ xs) ys h k = (h.0, h.1, h.2, leads_join h.1 q r xs ys h.3 k)

-- it goes on over a piece
pub goes : (at : ℕ) (p q : Phase) (held piece : List ℕ) → IsOpen at (Some p) held → length held + length piece ≤ 131071 → Leads p piece q → IsOpen (at + length piece) (Some q) (held ++ piece)
goes at p q held piece h le leads =
    (omega (arith, h.0, length-append held piece), omega (arith, le, length-append held piece), leads_join (Source 0) p q held piece h.2 leads)

pub goes_ahead : (at : ℕ) (p q : Phase) (held piece more : List ℕ) → length held < at → ahead_of (at + length piece) (Some q) (held ++ piece) more ≡ ahead_of at (Some p) held (piece ++ more)
goes_ahead at p q held piece more lt =
    let place : at + length piece - (length (held ++ piece) + 1) ≡ at - (length held + 1) = omega (arith, lt, length-append held piece) in
    ap (λ n. wire_from n (1 ∷ ((held ++ piece) ++ more))) place ∙ ap (λ z. wire_from (at - (length held + 1)) (1 ∷ z)) (append_assoc held piece more)

-- it ends in a piece
pub closes_in : (at : ℕ) (p : Phase) (held piece more : List ℕ) (len : ℕ) (what : Option What) → IsOpen at (Some p) held → EndsIn p (length held) piece len what
    → ahead_of at (Some p) held (piece ++ more) ≡ closing (at + len) (held ++ take len piece) what ∷ wire_from (at + len) (drop len piece ++ more)
closes_in at p held piece more len what h e =
    let size = length-take-le len piece (omega (arith, e.within)) in
    let front = take len piece in
    let b = get_or piece len 0 in
    let rest = drop (len + 1) piece in
    let split : piece ++ more ≡ front ++ (b ∷ (rest ++ more)) = ap (λ z. z ++ more) (sym (take-append-drop len piece) ∙ ap (λ z. front ++ z) (drop_more piece len 0 e.within)) ∙ append_assoc front (b ∷ rest) more in
    let stood = goes at p e.phase held front h (omega (arith, size, e.few)) e.leads in
    let long : length (held ++ front) ≡ length held + len = omega (arith, size, length-append held front) in
    let ended = over_byte (at + length front) e.phase (held ++ front) (rest ++ more) b what stood (ap (λ n. turn e.phase n b) long ∙ e.over) in
    ap (ahead_of at (Some p) held) split
    ∙ sym (goes_ahead at p e.phase held front (b ∷ (rest ++ more)) h.0)
    ∙ ended
    ∙ ap (λ n. closing (at + n) (held ++ front) what ∷ wire_from (at + n) (b ∷ (rest ++ more))) size
    ∙ ap (λ z. closing (at + len) (held ++ front) what ∷ wire_from (at + len) (z ++ more)) (sym (drop_more piece len 0 e.within))

-- ---- outside a message

quiet_ahead : (at : ℕ) (bytes more : List ℕ) → IsWithout 1 bytes → wire_from (at + length bytes) more ≡ wire_from at (bytes ++ more)
quiet_ahead at [] more h = ap (λ n. wire_from n more) (omega arith)
quiet_ahead at (b ∷ bytes) more h = ap (λ n. wire_from n more) (omega arith) ∙ quiet_ahead (at + 1) bytes more h.1 ∙ skipped at b (bytes ++ more) h.0

-- no message begins in a piece
pub outside_quiet : (at place : ℕ) (bytes more : List ℕ) → IsWithout 1 bytes → at + length bytes ≡ place → wire_from place more ≡ wire_from at (bytes ++ more)
outside_quiet at place bytes more h e = ap (λ n. wire_from n more) (sym e) ∙ quiet_ahead at bytes more h

-- a message begins
soh_ahead : (at i : ℕ) (bytes more : List ℕ) → IsPlace 1 bytes i → ahead_of (at + i + 1) (Some (Source 0)) [] (drop (i + 1) bytes ++ more) ≡ wire_from at (bytes ++ more)
soh_ahead at i bytes more h =
    let size = length-take-le i bytes (omega (arith, h.within)) in
    let place : at + i + 1 - (0 + 1) ≡ at + length (take i bytes) = omega (arith, size) in
    let rest = 1 ∷ (drop (i + 1) bytes ++ more) in
    ap (λ n. wire_from n rest) place ∙ quiet_ahead at (take i bytes) rest h.none
    ∙ ap (wire_from at) (sym (append_assoc (take i bytes) (1 ∷ drop (i + 1) bytes) more) ∙ ap (λ z. z ++ more) (sym h.split))

begun : (at i : ℕ) → IsOpen (at + i + 1) (Some (Source 0)) []
begun at i = (omega arith, omega arith, refl)

drop_length : (i : ℕ) (bytes : List ℕ) → i < length bytes → i + 1 + length (drop (i + 1) bytes) ≡ length bytes
drop_length i bytes l = omega (arith, l, length-drop (i + 1) bytes)

-- and is still open behind the piece
pub outside_open : (at i place : ℕ) (bytes : List ℕ) (q : Phase) → IsPlace 1 bytes i → IsReach (Source 0) 0 (drop (i + 1) bytes) (Open q) → at + length bytes ≡ place → IsOpen place (Some q) (drop (i + 1) bytes)
outside_open at i place bytes q h r e =
    let there : at + i + 1 + length (drop (i + 1) bytes) ≡ place = omega (arith, drop_length i bytes h.within, e) in
    subst (λ n. IsOpen n (Some q) (drop (i + 1) bytes)) there (goes (at + i + 1) (Source 0) q [] (drop (i + 1) bytes) (begun at i) r.0 r.1)

pub outside_open_ahead : (at i place : ℕ) (bytes more : List ℕ) (q : Phase) → IsPlace 1 bytes i → at + length bytes ≡ place → ahead_of place (Some q) (drop (i + 1) bytes) more ≡ wire_from at (bytes ++ more)
outside_open_ahead at i place bytes more q h e =
    let there : place ≡ at + i + 1 + length (drop (i + 1) bytes) = omega (arith, drop_length i bytes h.within, e) in
    ap (λ n. ahead_of n (Some q) (drop (i + 1) bytes) more) there
    ∙ goes_ahead (at + i + 1) (Source 0) q [] (drop (i + 1) bytes) more (omega arith) ∙ soh_ahead at i bytes more h

-- and ends in the piece
pub outside_ended : (at i len : ℕ) (bytes more : List ℕ) (made : List Found) (what : Option What) → IsPlace 1 bytes i → EndsIn (Source 0) 0 (drop (i + 1) bytes) len what
    → (made ++ closing (at + i + 1 + len) (take len (drop (i + 1) bytes)) what ∷ []) ++ wire_from (at + i + 1 + len) (drop len (drop (i + 1) bytes) ++ more) ≡ made ++ wire_from at (bytes ++ more)
outside_ended at i len bytes more made what h r =
    let one = closing (at + i + 1 + len) (take len (drop (i + 1) bytes)) what in
    let rest = wire_from (at + i + 1 + len) (drop len (drop (i + 1) bytes) ++ more) in
    append_assoc made (one ∷ []) rest
    ∙ ap (λ z. made ++ z) (sym (closes_in (at + i + 1) (Source 0) [] (drop (i + 1) bytes) more len what (begun at i) r) ∙ soh_ahead at i bytes more h)

-- ---- in the code's words

pub opened_in : (at i place : ℕ) (bytes message more : List ℕ) (made : List Found) (q : Phase) → IsPlace 1 bytes i → message ≡ drop (i + 1) bytes → at + length bytes ≡ place
    → made ++ ahead_of place (Some q) message more ≡ made ++ wire_from at (bytes ++ more)
opened_in at i place bytes message more made q h e p = ap (λ z. made ++ ahead_of place (Some q) z more) e ∙ ap (λ z. made ++ z) (outside_open_ahead at i place bytes more q h p)

pub ended_in : (at i len : ℕ) (bytes message front rest more : List ℕ) (made made' : List Found) (found : Found) (what : Option What) → IsPlace 1 bytes i → message ≡ drop (i + 1) bytes → EndsIn (Source 0) 0 message len what
    → front ≡ take len message → rest ≡ drop len message → found ≡ closing (at + i + 1 + len) front what → made' ≡ made ++ found ∷ []
    → made' ++ wire_from (at + i + 1 + len) (rest ++ more) ≡ made ++ wire_from at (bytes ++ more)
ended_in at i len bytes message front rest more made made' found what h e r f g k m =
    let n = at + i + 1 + len in
    let r' = subst (λ z. EndsIn (Source 0) 0 z len what) e r in
    ap (λ z. z ++ wire_from n (rest ++ more)) m
    ∙ ap (λ z. (made ++ z ∷ []) ++ wire_from n (rest ++ more)) k
    ∙ ap (λ z. (made ++ closing n z what ∷ []) ++ wire_from n (rest ++ more)) (f ∙ ap (take len) e)
    ∙ ap (λ z. (made ++ closing n (take len (drop (i + 1) bytes)) what ∷ []) ++ wire_from n (z ++ more)) (g ∙ ap (drop len) e)
    ∙ outside_ended at i len bytes more made what h r'

pub open_of : (at : ℕ) (ph : Option Phase) (p : Phase) (held : List ℕ) → ph ≡ Some p → IsOpen at ph held → IsOpen at (Some p) held
open_of at ph p held e h = subst (λ x. IsOpen at x held) e h

pub last_in : (at : ℕ) (ph : Option Phase) (p : Phase) (held told : List ℕ) (w : Option What) (xs ys : List Found) (found : Found) → ph ≡ Some p → IsOpen at ph held → told ≡ held → w ≡ at_end p → found ≡ closing at told w → ys ≡ xs ++ found ∷ []
    → ys ≡ xs ++ ahead_of at ph held []
last_in at ph p held told w xs ys found e h t v f m =
    m ∙ ap (λ z. xs ++ z ∷ []) (f ∙ ap (λ z. closing at z w) t ∙ ap (closing at held) v) ∙ ap (λ z. xs ++ z) (sym (ap (λ q. ahead_of at q held []) e ∙ last_of at p held (open_of at ph p held e h)))

pub went_in : (at : ℕ) (ph : Option Phase) (p q : Phase) (held held' piece more : List ℕ) (xs : List Found) → ph ≡ Some p → IsOpen at ph held → held' ≡ held ++ piece
    → xs ++ ahead_of (at + length piece) (Some q) held' more ≡ xs ++ ahead_of at ph held (piece ++ more)
went_in at ph p q held held' piece more xs e h k =
    ap (λ z. xs ++ ahead_of (at + length piece) (Some q) z more) k
    ∙ ap (λ z. xs ++ z) (goes_ahead at p q held piece more (open_of at ph p held e h).0 ∙ ap (λ r. ahead_of at r held (piece ++ more)) (sym e))

pub open_in : (at : ℕ) (ph : Option Phase) (p q : Phase) (held held' piece : List ℕ) → ph ≡ Some p → IsOpen at ph held → held' ≡ held ++ piece → (length held + length piece ≤ 131071) × Leads p piece q → IsOpen (at + length piece) (Some q) held'
open_in at ph p q held held' piece e h k r = subst (IsOpen (at + length piece) (Some q)) (sym k) (goes at p q held piece (open_of at ph p held e h) r.0 r.1)

pub closed_in : (at len : ℕ) (ph : Option Phase) (p : Phase) (held piece more : List ℕ) (what : Option What) (xs : List Found) → ph ≡ Some p → IsOpen at ph held → EndsIn p (length held) piece len what
    → xs ++ closing (at + len) (held ++ take len piece) what ∷ wire_from (at + len) (drop len piece ++ more) ≡ xs ++ ahead_of at ph held (piece ++ more)
closed_in at len ph p held piece more what xs e h r =
    ap (λ z. xs ++ z) (sym (closes_in at p held piece more len what (open_of at ph p held e h) r) ∙ ap (λ q. ahead_of at q held (piece ++ more)) (sym e))

pub closes_on : (at len : ℕ) (held told front piece rest more : List ℕ) (none made ready out : List Found) (found : Found) (what : Option What) → told ≡ held ++ front → front ≡ take len piece → rest ≡ drop len piece
    → found ≡ closing (at + len) told what → none ≡ [] → made ≡ none ++ found ∷ [] → out ≡ (ready ++ made) ++ wire_from (at + len) (rest ++ more)
    → out ≡ ready ++ closing (at + len) (held ++ take len piece) what ∷ wire_from (at + len) (drop len piece ++ more)
closes_on at len held told front piece rest more none made ready out found what t f r k e m o =
    let n = at + len in
    let one = closing n (held ++ take len piece) what in
    let same : found ≡ one = k ∙ ap (λ z. closing n z what) (t ∙ ap (λ z. held ++ z) f) in
    let made_is : made ≡ one ∷ [] = m ∙ ap (λ z. z ++ found ∷ []) e ∙ ap (λ z. z ∷ []) same in
    o ∙ ap (λ z. (ready ++ z) ++ wire_from n (rest ++ more)) made_is ∙ append_assoc ready (one ∷ []) (wire_from n (rest ++ more)) ∙ ap (λ z. ready ++ one ∷ wire_from n (z ++ more)) r
