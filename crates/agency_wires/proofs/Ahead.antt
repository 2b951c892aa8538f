-- What is ahead of a reader, byte by byte and piece by piece.
use Rattle.std.proofs.Common.{◌≡◌, ◌≢◌, ℕ, ◌+◌, ◌-◌, ◌<◌, ◌≤◌, true, false, cond, List, [], ◌∷◌, ◌++◌, length, take, drop, get_or, Option, Some, refl, sym, ap, subst, ◌∙◌, arith, inl, inr, length-append, append_assoc, length-drop}
use Rattle.std.proofs.lemmas.List.{append-nil, take_more, drop_more, take-append-drop, take-take, drop-take, length-take-le}
use Rattle.std.proofs.lemmas.Bool.{cases_eq, cases_Bool, eq-eqb, ne_eqb, le-ltb, lt-ltb}
use Rattle.agency_wires.specs.declared.found.Found.{Found}
use Rattle.agency_wires.specs.declared.found.Found.TheVariants as found
use Rattle.agency_wires.specs.declared.phase.Phase.{Phase}
use Rattle.agency_wires.specs.declared.phase.Phase.TheVariants.{Head}
use Rattle.agency_wires.specs.declared.phase.Step.{Step}
use Rattle.agency_wires.specs.declared.phase.Step.TheVariants.{Go, Ends}
use Rattle.agency_wires.specs.declared.reach.End.{End}
use Rattle.agency_wires.specs.declared.reach.End.TheVariants.{Whole, TooLong}
use Rattle.agency_wires.specs.declared.reach.Turn.TheVariants.{On, Over}
use Rattle.agency_wires.specs.declared.reach.Reach.TheVariants.{Open}
use Rattle.agency_wires.specs.Messages.{ends_message, before_end, message, found_at, messages_from}
use Rattle.agency_wires.specs.Machine.{step, turn, within_size, Leads, EndsIn, IsReach}
use Rattle.agency_wires.specs.State.{IsOpen, ahead_of, closing}
use Rattle.text7901.proofs.Parts.{IsWithout, IsPlace}
use Rattle.agency_wires.proofs.Ends.{closed, closed_nil, step_goes, step_ends, before_more, before_last, leads_closed, skipped, messages_held}

-- where the message begins of which these bytes are held
abbrev start_of : ℕ → List ℕ → ℕ
start_of at held = at - (length held + 1)

both : {x y : Found} {xs ys : List Found} → x ≡ y → xs ≡ ys → x ∷ xs ≡ y ∷ ys
both e f = cc

-- ---- members

message_is : (q : Phase) (held more : List ℕ) → Leads Head held q → message (held ++ more) ≡ held ++ closed q (before_end more)
message_is q held more h = leads_closed Head q held more h

-- a member that is over behind what is held
ends_here : (at : ℕ) (q : Phase) (held more : List ℕ) → IsOpen at (Some q) held → closed q (before_end more) ≡ []
    → found_at (start_of at held) (message (held ++ more)) ≡ closing at held Whole
ends_here at q held more h e =
    ap (found_at (start_of at held)) (message_is q held more h.2 ∙ ap (λ z. held ++ z) e ∙ append-nil held)
    ∙ ap (λ t. cond t (found.TooLong (start_of at held + 1_048_577)) (found.Message (start_of at held) held)) (le-ltb 1_048_576 (length held) h.1)

too_long : (at : ℕ) (q r : Phase) (held more : List ℕ) (b : ℕ) → IsOpen at (Some q) held → length held ≡ 1_048_576 → ends_message b ≡ false → step q b ≡ Go r
    → found_at (start_of at held) (message (held ++ b ∷ more)) ≡ closing at held TooLong
too_long at q r held more b h full other s =
    let told = held ++ b ∷ closed r (before_end more) in
    let is = message_is q held (b ∷ more) h.2 ∙ ap (λ z. held ++ z) (ap (closed q) (before_more b more other) ∙ step_goes q r b (before_end more) s) in
    let far : 1_048_576 < length told = omega (arith, full, length-append held (b ∷ closed r (before_end more))) in
    let place : start_of at held + 1_048_577 ≡ at = omega (arith, h.0, full) in
    ap (found_at (start_of at held)) is
    ∙ ap (λ t. cond t (found.TooLong (start_of at held + 1_048_577)) (found.Message (start_of at held) told)) (lt-ltb 1_048_576 (length told) far)
    ∙ ap found.TooLong place

-- ---- what is ahead

opened : (at : ℕ) (q : Phase) (held more : List ℕ) → IsOpen at (Some q) held
    → ahead_of at (Some q) held more ≡ found_at (start_of at held) (message (held ++ more)) ∷ messages_from at more
opened at q held more h =
    let rest = messages_held Head q held more (start_of at held + 1) h.2 in
    let place : start_of at held + 1 + length held ≡ at = omega (arith, h.0) in
    ap (λ z. found_at (start_of at held) (message (held ++ more)) ∷ z) (rest ∙ ap (λ n. messages_from n more) place)

-- the end of input ends it
pub last_of : (at : ℕ) (q : Phase) (held : List ℕ) → IsOpen at (Some q) held → ahead_of at (Some q) held [] ≡ closing at held Whole ∷ []
last_of at q held h = opened at q held [] h ∙ ap (λ m. m ∷ []) (ends_here at q held [] h (closed_nil q))

pub over_full : (at : ℕ) (q r : Phase) (held more : List ℕ) (b : ℕ) → IsOpen at (Some q) held → length held ≡ 1_048_576 → ends_message b ≡ false → step q b ≡ Go r
    → ahead_of at (Some q) held (b ∷ more) ≡ closing at held TooLong ∷ messages_from at (b ∷ more)
over_full at q r held more b h full other s = opened at q held (b ∷ more) h ∙ ap (λ m. m ∷ messages_from at (b ∷ more)) (too_long at q r held more b h full other s)

over_whole : (at : ℕ) (q : Phase) (held more : List ℕ) (b : ℕ) → IsOpen at (Some q) held → closed q (before_end (b ∷ more)) ≡ []
    → ahead_of at (Some q) held (b ∷ more) ≡ closing at held Whole ∷ messages_from at (b ∷ more)
over_whole at q held more b h e = opened at q held (b ∷ more) h ∙ ap (λ m. m ∷ messages_from at (b ∷ more)) (ends_here at q held (b ∷ more) h e)

-- ---- turns

turn_other : (q : Phase) (n b : ℕ) → ends_message b ≡ false → turn q n b ≡ within_size n (step q b)
turn_other q n b other = ap (λ t. cond t (Over Whole) (within_size n (step q b))) other

turn_end : (q : Phase) (n b : ℕ) → ends_message b ≡ true → turn q n b ≡ Over Whole
turn_end q n b e = ap (λ t. cond t (Over Whole) (within_size n (step q b))) e

full_turn : (n : ℕ) (r : Phase) → n ≡ 1_048_576 → within_size n (Go r) ≡ Over TooLong
full_turn n r e = ap (λ t. cond t (Over TooLong) (On r)) (eq-eqb n 1_048_576 e)

room_turn : (n : ℕ) (r : Phase) → n ≢ 1_048_576 → within_size n (Go r) ≡ On r
room_turn n r e = ap (λ t. cond t (Over TooLong) (On r)) (ne_eqb n 1_048_576 e)

over_same : {x y : End} → Over x ≡ Over y → x ≡ y
over_same e = cc

on_over : {q : Phase} {x : End} → On q ≡ Over x → ⊥
on_over e = cc

-- what a byte ends in a step of each kind
over_step : (at : ℕ) (q : Phase) (held more : List ℕ) (b : ℕ) (end : End) (s : Step) → ends_message b ≡ false → IsOpen at (Some q) held → step q b ≡ s → within_size (length held) s ≡ Over end
    → ahead_of at (Some q) held (b ∷ more) ≡ closing at held end ∷ messages_from at (b ∷ more)
over_step at q held more b end (Go r) other h e t =
    elim (cases_eq (length held) 1_048_576) [
      | inl full ↦
          over_full at q r held more b h full other e ∙ ap (λ z. closing at held z ∷ messages_from at (b ∷ more)) (over_same (sym (full_turn (length held) r full) ∙ t))
      | inr room ↦ absurd (on_over (sym (room_turn (length held) r room) ∙ t))
    ]
over_step at q held more b end Ends other h e t =
    over_whole at q held more b h (ap (closed q) (before_more b more other) ∙ step_ends q b (before_end more) e)
    ∙ ap (λ z. closing at held z ∷ messages_from at (b ∷ more)) (over_same t)

-- a byte with which a message is over
over_byte : (at : ℕ) (q : Phase) (held more : List ℕ) (b : ℕ) (end : End) → IsOpen at (Some q) held → turn q (length held) b ≡ Over end
    → ahead_of at (Some q) held (b ∷ more) ≡ closing at held end ∷ messages_from at (b ∷ more)
over_byte at q held more b end h t =
    elim (cases_Bool (ends_message b)) [
      | inl e ↦
          over_whole at q held more b h (ap (closed q) (before_last b more e) ∙ closed_nil q)
          ∙ ap (λ z. closing at held z ∷ messages_from at (b ∷ more)) (over_same (sym (turn_end q (length held) b e) ∙ t))
      | inr other ↦ over_step at q held more b end (step q b) other h refl (sym (turn_other q (length held) b other) ∙ t)
    ]

on_same : {p q : Phase} → On p ≡ On q → p ≡ q
on_same e = cc

over_on : {x : End} {q : Phase} → Over x ≡ On q → ⊥
over_on e = cc

on_step : (n : ℕ) (s : Step) (r : Phase) → within_size n s ≡ On r → (s ≡ Go r) × (n ≢ 1_048_576)
on_step n Ends r t = absurd (over_on t)
on_step n (Go q) r t =
    elim (cases_eq n 1_048_576) [
      | inl full ↦ absurd (over_on (sym (full_turn n q full) ∙ t))
      | inr room ↦ (ap Go (on_same (sym (room_turn n q room) ∙ t)), room)
    ]

-- a byte with which it goes on
pub turn_on : (q r : Phase) (n b : ℕ) → turn q n b ≡ On r → (ends_message b ≡ false) × (step q b ≡ Go r) × (n ≢ 1_048_576)
turn_on q r n b t =
    elim (cases_Bool (ends_message b)) [
      | inl e ↦ absurd (over_on (sym (turn_end q n b e) ∙ t))
      | inr other ↦ let h = on_step n (step q b) r (sym (turn_other q n b other) ∙ t) in (other, h.0, h.1)
    ]

leads_more : (p q r : Phase) (held : List ℕ) (b : ℕ) → ends_message b ≡ false → Leads p held q → step q b ≡ Go r → Leads p (held ++ b ∷ []) r
leads_more p q r [] b other h e = (other, r, subst (λ x. step x b ≡ Go r) (sym h) e, refl)
leads_more p q r (c ∷ held) b other h e = (h.0, h.1, h.2, leads_more h.1 q r held b other h.3 e)

pub leads_on : (p q r : Phase) (piece : List ℕ) (i held b : ℕ) → i < length piece → b ≡ get_or piece i 0 → Leads p (take i piece) q → turn q (held + i) b ≡ On r
    → Leads p (take (i + 1) piece) r
leads_on p q r piece i held b l e h t =
    let one = turn_on q r (held + i) b t in
    subst (λ z. Leads p z r) (ap (λ z. take i piece ++ z ∷ []) e ∙ sym (take_more piece i 0 l)) (leads_more p q r (take i piece) b one.0 h one.1)

-- ---- pieces

leads_join : (p q r : Phase) (xs ys : List ℕ) → Leads p xs q → Leads q ys r → Leads p (xs ++ ys) r
leads_join p q r [] ys h k = subst (λ z. Leads z ys r) (sym h) k
leads_join p q r (b ∷ xs) ys h k = (h.0, h.1, h.2, leads_join h.1 q r xs ys h.3 k)

take_two : (a n : ℕ) (xs : List ℕ) → take a xs ++ take n (drop a xs) ≡ take (a + n) xs
take_two a n xs =
    ap (λ z. z ++ take n (drop a xs)) (sym (take-take a (a + n) xs (omega arith))) ∙ ap (λ z. take a (take (a + n) xs) ++ z) (sym (drop-take a n xs)) ∙ take-append-drop a (take (a + n) xs)

-- and over some bytes of it that leave it in its phase
pub leads_past : (p q : Phase) (piece : List ℕ) (i n : ℕ) → Leads p (take i piece) q → Leads q (take n (drop i piece)) q → Leads p (take (i + n) piece) q
leads_past p q piece i n h k = subst (λ z. Leads p z q) (take_two i n piece) (leads_join p q q (take i piece) (take n (drop i piece)) h k)

-- it goes on over a piece
pub goes : (at : ℕ) (p q : Phase) (held piece : List ℕ) → IsOpen at (Some p) held → length held + length piece ≤ 1_048_576 → Leads p piece q → IsOpen (at + length piece) (Some q) (held ++ piece)
goes at p q held piece h le leads =
    (omega (arith, h.0, length-append held piece), omega (arith, le, length-append held piece), leads_join Head p q held piece h.2 leads)

pub goes_ahead : (at : ℕ) (p q : Phase) (held piece more : List ℕ) → length held < at → ahead_of (at + length piece) (Some q) (held ++ piece) more ≡ ahead_of at (Some p) held (piece ++ more)
goes_ahead at p q held piece more lt =
    let place : at + length piece - (length (held ++ piece) + 1) ≡ at - (length held + 1) = omega (arith, lt, length-append held piece) in
    ap (λ n. messages_from n (1 ∷ ((held ++ piece) ++ more))) place ∙ ap (λ z. messages_from (at - (length held + 1)) (1 ∷ z)) (append_assoc held piece more)

-- it ends in a piece
pub closes_in : (at : ℕ) (p : Phase) (held piece more : List ℕ) (len : ℕ) (end : End) → IsOpen at (Some p) held → EndsIn p (length held) piece len end
    → ahead_of at (Some p) held (piece ++ more) ≡ closing (at + len) (held ++ take len piece) end ∷ messages_from (at + len) (drop len piece ++ more)
closes_in at p held piece more len end h e =
    let size = length-take-le len piece (omega (arith, e.within)) in
    let front = take len piece in
    let b = get_or piece len 0 in
    let rest = drop (len + 1) piece in
    let split : piece ++ more ≡ front ++ (b ∷ (rest ++ more)) = ap (λ z. z ++ more) (sym (take-append-drop len piece) ∙ ap (λ z. front ++ z) (drop_more piece len 0 e.within)) ∙ append_assoc front (b ∷ rest) more in
    let stood = goes at p e.phase held front h (omega (arith, size, e.few)) e.leads in
    let long : length (held ++ front) ≡ length held + len = omega (arith, size, length-append held front) in
    let ended = over_byte (at + length front) e.phase (held ++ front) (rest ++ more) b end stood (ap (λ n. turn e.phase n b) long ∙ e.over) in
    ap (ahead_of at (Some p) held) split
    ∙ sym (goes_ahead at p e.phase held front (b ∷ (rest ++ more)) h.0)
    ∙ ended
    ∙ ap (λ n. closing (at + n) (held ++ front) end ∷ messages_from (at + n) (b ∷ (rest ++ more))) size
    ∙ ap (λ z. closing (at + len) (held ++ front) end ∷ messages_from (at + len) (z ++ more)) (sym (drop_more piece len 0 e.within))

-- ---- outside a message

quiet_ahead : (at : ℕ) (bytes more : List ℕ) → IsWithout 1 bytes → messages_from (at + length bytes) more ≡ messages_from at (bytes ++ more)
quiet_ahead at [] more h = ap (λ n. messages_from n more) (omega arith)
quiet_ahead at (b ∷ bytes) more h = ap (λ n. messages_from n more) (omega arith) ∙ quiet_ahead (at + 1) bytes more h.1 ∙ skipped at b (bytes ++ more) h.0

-- no message begins in a piece
pub outside_quiet : (at place : ℕ) (bytes more : List ℕ) → IsWithout 1 bytes → at + length bytes ≡ place → messages_from place more ≡ messages_from at (bytes ++ more)
outside_quiet at place bytes more h e = ap (λ n. messages_from n more) (sym e) ∙ quiet_ahead at bytes more h

-- a message begins
soh_ahead : (at i : ℕ) (bytes more : List ℕ) → IsPlace 1 bytes i → ahead_of (at + i + 1) (Some Head) [] (drop (i + 1) bytes ++ more) ≡ messages_from at (bytes ++ more)
soh_ahead at i bytes more h =
    let size = length-take-le i bytes (omega (arith, h.within)) in
    let place : at + i + 1 - (0 + 1) ≡ at + length (take i bytes) = omega (arith, size) in
    let rest = 1 ∷ (drop (i + 1) bytes ++ more) in
    ap (λ n. messages_from n rest) place ∙ quiet_ahead at (take i bytes) rest h.none
    ∙ ap (messages_from at) (sym (append_assoc (take i bytes) (1 ∷ drop (i + 1) bytes) more) ∙ ap (λ z. z ++ more) (sym h.split))

begun : (at i : ℕ) → IsOpen (at + i + 1) (Some Head) []
begun at i = (omega arith, omega arith, refl)

drop_length : (i : ℕ) (bytes : List ℕ) → i < length bytes → i + 1 + length (drop (i + 1) bytes) ≡ length bytes
drop_length i bytes l = omega (arith, l, length-drop (i + 1) bytes)

-- and is still open behind the piece
pub outside_open : (at i place : ℕ) (bytes : List ℕ) (q : Phase) → IsPlace 1 bytes i → IsReach Head 0 (drop (i + 1) bytes) (Open q) → at + length bytes ≡ place → IsOpen place (Some q) (drop (i + 1) bytes)
outside_open at i place bytes q h r e =
    let there : at + i + 1 + length (drop (i + 1) bytes) ≡ place = omega (arith, drop_length i bytes h.within, e) in
    subst (λ n. IsOpen n (Some q) (drop (i + 1) bytes)) there (goes (at + i + 1) Head q [] (drop (i + 1) bytes) (begun at i) r.0 r.1)

pub outside_open_ahead : (at i place : ℕ) (bytes more : List ℕ) (q : Phase) → IsPlace 1 bytes i → at + length bytes ≡ place → ahead_of place (Some q) (drop (i + 1) bytes) more ≡ messages_from at (bytes ++ more)
outside_open_ahead at i place bytes more q h e =
    let there : place ≡ at + i + 1 + length (drop (i + 1) bytes) = omega (arith, drop_length i bytes h.within, e) in
    ap (λ n. ahead_of n (Some q) (drop (i + 1) bytes) more) there
    ∙ goes_ahead (at + i + 1) Head q [] (drop (i + 1) bytes) more (omega arith) ∙ soh_ahead at i bytes more h

-- and ends in the piece
pub outside_ended : (at i len : ℕ) (bytes more : List ℕ) (made : List Found) (end : End) → IsPlace 1 bytes i → EndsIn Head 0 (drop (i + 1) bytes) len end
    → (made ++ closing (at + i + 1 + len) (take len (drop (i + 1) bytes)) end ∷ []) ++ messages_from (at + i + 1 + len) (drop len (drop (i + 1) bytes) ++ more) ≡ made ++ messages_from at (bytes ++ more)
outside_ended at i len bytes more made end h r =
    let one = closing (at + i + 1 + len) (take len (drop (i + 1) bytes)) end in
    let rest = messages_from (at + i + 1 + len) (drop len (drop (i + 1) bytes) ++ more) in
    append_assoc made (one ∷ []) rest
    ∙ ap (λ z. made ++ z) (sym (closes_in (at + i + 1) Head [] (drop (i + 1) bytes) more len end (begun at i) r) ∙ soh_ahead at i bytes more h)

-- ---- in the code's words

pub opened_in : (at i place : ℕ) (bytes message more : List ℕ) (made : List Found) (q : Phase) → IsPlace 1 bytes i → message ≡ drop (i + 1) bytes → at + length bytes ≡ place
    → made ++ ahead_of place (Some q) message more ≡ made ++ messages_from at (bytes ++ more)
opened_in at i place bytes message more made q h e p = ap (λ z. made ++ ahead_of place (Some q) z more) e ∙ ap (λ z. made ++ z) (outside_open_ahead at i place bytes more q h p)

pub ended_in : (at i len : ℕ) (bytes message front rest more : List ℕ) (made made' : List Found) (one : Found) (end : End) → IsPlace 1 bytes i → message ≡ drop (i + 1) bytes → EndsIn Head 0 message len end
    → front ≡ take len message → rest ≡ drop len message → one ≡ closing (at + i + 1 + len) front end → made' ≡ made ++ one ∷ []
    → made' ++ messages_from (at + i + 1 + len) (rest ++ more) ≡ made ++ messages_from at (bytes ++ more)
ended_in at i len bytes message front rest more made made' one end h e r f g k m =
    let n = at + i + 1 + len in
    let r' = subst (λ z. EndsIn Head 0 z len end) e r in
    ap (λ z. z ++ messages_from n (rest ++ more)) m
    ∙ ap (λ z. (made ++ z ∷ []) ++ messages_from n (rest ++ more)) k
    ∙ ap (λ z. (made ++ closing n z end ∷ []) ++ messages_from n (rest ++ more)) (f ∙ ap (take len) e)
    ∙ ap (λ z. (made ++ closing n (take len (drop (i + 1) bytes)) end ∷ []) ++ messages_from n (z ++ more)) (g ∙ ap (drop len) e)
    ∙ outside_ended at i len bytes more made end h r'

pub open_of : (at : ℕ) (ph : Option Phase) (p : Phase) (held : List ℕ) → ph ≡ Some p → IsOpen at ph held → IsOpen at (Some p) held
open_of at ph p held e h = subst (λ x. IsOpen at x held) e h

pub last_in : (at : ℕ) (ph : Option Phase) (p : Phase) (held told : List ℕ) (xs ys : List Found) (one : Found) → ph ≡ Some p → IsOpen at ph held → told ≡ held → one ≡ closing at told Whole → ys ≡ xs ++ one ∷ []
    → ys ≡ xs ++ ahead_of at ph held []
last_in at ph p held told xs ys one e h t f m =
    m ∙ ap (λ z. xs ++ z ∷ []) (f ∙ ap (λ z. closing at z Whole) t) ∙ ap (λ z. xs ++ z) (sym (ap (λ q. ahead_of at q held []) e ∙ last_of at p held (open_of at ph p held e h)))

pub went_in : (at : ℕ) (ph : Option Phase) (p q : Phase) (held held' piece more : List ℕ) (xs : List Found) → ph ≡ Some p → IsOpen at ph held → held' ≡ held ++ piece
    → xs ++ ahead_of (at + length piece) (Some q) held' more ≡ xs ++ ahead_of at ph held (piece ++ more)
went_in at ph p q held held' piece more xs e h k =
    ap (λ z. xs ++ ahead_of (at + length piece) (Some q) z more) k
    ∙ ap (λ z. xs ++ z) (goes_ahead at p q held piece more (open_of at ph p held e h).0 ∙ ap (λ r. ahead_of at r held (piece ++ more)) (sym e))

pub open_in : (at : ℕ) (ph : Option Phase) (p q : Phase) (held held' piece : List ℕ) → ph ≡ Some p → IsOpen at ph held → held' ≡ held ++ piece → (length held + length piece ≤ 1_048_576) × Leads p piece q → IsOpen (at + length piece) (Some q) held'
open_in at ph p q held held' piece e h k r = subst (IsOpen (at + length piece) (Some q)) (sym k) (goes at p q held piece (open_of at ph p held e h) r.0 r.1)

pub closed_in : (at len : ℕ) (ph : Option Phase) (p : Phase) (held piece more : List ℕ) (end : End) (xs : List Found) → ph ≡ Some p → IsOpen at ph held → EndsIn p (length held) piece len end
    → xs ++ closing (at + len) (held ++ take len piece) end ∷ messages_from (at + len) (drop len piece ++ more) ≡ xs ++ ahead_of at ph held (piece ++ more)
closed_in at len ph p held piece more end xs e h r =
    ap (λ z. xs ++ z) (sym (closes_in at p held piece more len end (open_of at ph p held e h) r) ∙ ap (λ q. ahead_of at q held (piece ++ more)) (sym e))

pub closes_on : (at len : ℕ) (held seen front piece rest more : List ℕ) (none made ready out : List Found) (one : Found) (end : End) → seen ≡ held ++ front → front ≡ take len piece → rest ≡ drop len piece
    → one ≡ closing (at + len) seen end → none ≡ [] → made ≡ none ++ one ∷ [] → out ≡ (ready ++ made) ++ messages_from (at + len) (rest ++ more)
    → out ≡ ready ++ closing (at + len) (held ++ take len piece) end ∷ messages_from (at + len) (drop len piece ++ more)
closes_on at len held seen front piece rest more none made ready out one end t f r k e m o =
    let n = at + len in
    let told = closing n (held ++ take len piece) end in
    let same : one ≡ told = k ∙ ap (λ z. closing n z end) (t ∙ ap (λ z. held ++ z) f) in
    let made_is : made ≡ told ∷ [] = m ∙ ap (λ z. z ++ one ∷ []) e ∙ ap (λ z. z ∷ []) same in
    o ∙ ap (λ z. (ready ++ z) ++ messages_from n (rest ++ more)) made_is ∙ append_assoc ready (told ∷ []) (messages_from n (rest ++ more)) ∙ ap (λ z. ready ++ told ∷ messages_from n (z ++ more)) r
