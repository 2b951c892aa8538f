-- What a write behind the gate and a write of the gate leave.
use Rattle.std.proofs.Common.{◌≡◌, ◌⊎◌, inl, inr, ⊎_elim, ℕ, ◌+◌, ◌≤◌, ◌<◌, ◌^◌, List, [], ◌∷◌, ◌++◌, length, get_or, take, drop, Some, Result, Ok, Err, OnErr, refl, sym, ◌∙◌, ap, arith, append_assoc, length-append, take-append-drop}
use Rattle.std.proofs.lemmas.List.{take_at, drop_at, drop_more, append_cancel_left}
use Rattle.std.specs.Int.{w32, to_be_bytes}
use Rattle.news_io.specs.Disk.{Holds, Torn, Follows, Only}
use Rattle.news_io.specs.Keeper.{framed}
use Rattle.news_journal.specs.Log.{opened, records, span, AllFit}
use Rattle.news_journal.specs.Read.{record_then, opened_closed, behind_open, length-be, span_is}
use Rattle.news_journal.specs.Stands.{Outcome, IsShut, IsAjar}
use Rattle.news_journal.specs.Law.{ajar_opens}

-- one outcome after a write behind the gate
torn_behind : (base d rest c : List ℕ) (gate n g : ℕ) → gate ≡ length base → d ≡ base ++ g ∷ rest → Torn (gate + 1) n d c → c ≡ base ++ g ∷ drop (gate + 1) c
torn_behind base d rest c gate n g is was torn =
    let long : length d ≡ gate + 1 + length rest = omega (arith, ap length was, length-append base (g ∷ rest)) in
    let split : base ++ g ∷ rest ≡ (base ++ g ∷ []) ++ rest = sym (append_assoc base (g ∷ []) rest) in
    let front_d : take (gate + 1) d ≡ base ++ g ∷ [] = ap (λ (l : List ℕ). take (gate + 1) l) (was ∙ split) ∙ take_at (base ++ g ∷ []) rest (gate + 1) (omega (arith, length-append base (g ∷ []))) in
    let front : take (gate + 1) c ≡ base ++ g ∷ [] = torn.before (gate + 1) (omega arith) (omega arith) ∙ front_d in
    sym (take-append-drop (gate + 1) c) ∙ ap (λ (l : List ℕ). l ++ drop (gate + 1) c) front ∙ append_assoc base (g ∷ []) (drop (gate + 1) c)

-- one outcome after a write of the gate
pub torn_gate : (base d tail c : List ℕ) (gate g : ℕ) → gate ≡ length base → d ≡ base ++ g ∷ tail → Torn gate 1 d c → c ≡ base ++ get_or c gate 0 ∷ tail
torn_gate base d tail c gate g is was torn =
    let long : length d ≡ gate + 1 + length tail = omega (arith, ap length was, length-append base (g ∷ tail)) in
    let front : take gate c ≡ base = torn.before gate (omega arith) (omega arith) ∙ ap (λ (l : List ℕ). take gate l) was ∙ take_at base (g ∷ tail) gate (sym is) in
    let split : base ++ g ∷ tail ≡ (base ++ g ∷ []) ++ tail = sym (append_assoc base (g ∷ []) tail) in
    let back : drop (gate + 1) c ≡ tail = torn.after ∙ ap (λ (l : List ℕ). drop (gate + 1) l) (was ∙ split) ∙ drop_at (base ++ g ∷ []) tail (gate + 1) (omega (arith, length-append base (g ∷ []))) in
    sym (take-append-drop gate c)
    ∙ ap (λ (l : List ℕ). l ++ drop gate c) front
    ∙ ap (λ (l : List ℕ). base ++ l) (drop_more c gate 0 (omega (arith, torn.no_shorter)) ∙ ap (λ (l : List ℕ). get_or c gate 0 ∷ l) back)

module _ (base seen seen' : List ℕ) (m m' : List ℕ → Type 0) (gate : ℕ) (is : gate ≡ length base) where
  pub stage_shut : (n : ℕ) → IsShut base seen m → Torn (gate + 1) n seen seen' → Follows (Torn (gate + 1) n) m m' → IsShut base seen' m'
  stage_shut n shut torn follows = record { gate = shut.gate; closed = shut.closed; each = each }
    where
      each : (c : List ℕ) → Outcome seen' m' c → (rest : List ℕ) × (c ≡ base ++ shut.gate ∷ rest)
      each c (inl now) = let from = shut.each seen (inl refl) in (drop (gate + 1) seen', now ∙ torn_behind base seen from.0 seen' gate n shut.gate is from.1 torn)
      each c (inr left) =
          let step = follows c left in
          let from = shut.each step.0 (inr step.1) in
          (drop (gate + 1) c, torn_behind base step.0 from.0 c gate n shut.gate is from.1 step.2)

  pub staged : (p : List ℕ) → length p ≤ 4194304 → length base + 5 + length p < 2 ^ 30 → IsShut base seen m → Holds seen (gate + 1) (framed p) seen' → Only seen' m' → IsAjar base p seen' m'
  staged p fits small shut holds only = record { tail = tail; fits = fits; small = small; each = λ c out. (shut.gate, ⊎_elim (λ now. now ∙ all) (λ left. only c left ∙ all) out) }
    where
      tail : List ℕ
      tail = drop (gate + 1 + length (framed p)) seen

      all : seen' ≡ base ++ shut.gate ∷ record_then p (drop (gate + 1 + length (framed p)) seen)
      all =
          let from = shut.each seen (inl refl) in
          let split : base ++ shut.gate ∷ from.0 ≡ (base ++ shut.gate ∷ []) ++ from.0 = sym (append_assoc base (shut.gate ∷ []) from.0) in
          let front : take (gate + 1) seen ≡ base ++ shut.gate ∷ [] = ap (λ (l : List ℕ). take (gate + 1) l) (from.1 ∙ split) ∙ take_at (base ++ shut.gate ∷ []) from.0 (gate + 1) (omega (arith, length-append base (shut.gate ∷ []))) in
          let t = drop (gate + 1 + length (framed p)) seen in
          let whole : framed p ++ t ≡ record_then p t = ap (λ (l : List ℕ). l ++ t) (append_assoc (to_be_bytes w32 (length p)) p (0 ∷ [])) ∙ append_assoc (to_be_bytes w32 (length p)) (p ++ 0 ∷ []) t ∙ ap (λ (l : List ℕ). to_be_bytes w32 (length p) ++ l) (append_assoc p (0 ∷ []) t) in
          holds
          ∙ ap (λ (l : List ℕ). l ++ framed p ++ t) front
          ∙ append_assoc (base ++ shut.gate ∷ []) (framed p) t
          ∙ append_assoc base (shut.gate ∷ []) (framed p ++ t)
          ∙ ap (λ (l : List ℕ). base ++ shut.gate ∷ l) whole

  pub gate_ajar : (p : List ℕ) → IsAjar base p seen m → Torn gate 1 seen seen' → Follows (Torn gate 1) m m' → IsAjar base p seen' m'
  gate_ajar p ajar torn follows = record { tail = ajar.tail; fits = ajar.fits; small = ajar.small; each = each }
    where
      each : (c : List ℕ) → Outcome seen' m' c → (g : ℕ) × (c ≡ base ++ g ∷ record_then p ajar.tail)
      each c (inl now) = let from = ajar.each seen (inl refl) in (get_or seen' gate 0, now ∙ torn_gate base seen (record_then p ajar.tail) seen' gate from.0 is from.1 torn)
      each c (inr left) =
          let step = follows c left in
          let from = ajar.each step.0 (inr step.1) in
          (get_or c gate 0, torn_gate base step.0 (record_then p ajar.tail) c gate from.0 is from.1 step.2)

  pub gate_written : (p : List ℕ) (b : ℕ) (ajar : IsAjar base p seen m) → Holds seen gate (b ∷ []) seen' → Only seen' m' → (c : List ℕ) → Outcome seen' m' c → c ≡ base ++ b ∷ record_then p ajar.tail
  gate_written p b ajar holds only c out =
      let from = ajar.each seen (inl refl) in
      let split : base ++ from.0 ∷ record_then p ajar.tail ≡ (base ++ from.0 ∷ []) ++ record_then p ajar.tail = sym (append_assoc base (from.0 ∷ []) (record_then p ajar.tail)) in
      let front : take gate seen ≡ base = ap (λ (l : List ℕ). take gate l) from.1 ∙ take_at base (from.0 ∷ record_then p ajar.tail) gate (sym is) in
      let back : drop (gate + 1) seen ≡ record_then p ajar.tail = ap (λ (l : List ℕ). drop (gate + 1) l) (from.1 ∙ split) ∙ drop_at (base ++ from.0 ∷ []) (record_then p ajar.tail) (gate + 1) (omega (arith, length-append base (from.0 ∷ []))) in
      let all : seen' ≡ base ++ b ∷ record_then p ajar.tail =
      holds ∙ ap (λ (l : List ℕ). l ++ (b ∷ []) ++ drop (gate + 1) seen) front ∙ append_assoc base (b ∷ []) (drop (gate + 1) seen) ∙ ap (λ (l : List ℕ). base ++ b ∷ l) back in
      ⊎_elim (λ now. now ∙ all) (λ left. only c left ∙ all) out

  pub gate_shut : (p : List ℕ) → IsAjar base p seen m → Holds seen gate (0 ∷ []) seen' → Only seen' m' → IsShut base seen' m'
  gate_shut p ajar holds only = record { gate = 0; closed = λ no. absurd (cc no); each = λ c out. (record_then p ajar.tail, gate_written p 0 ajar holds only c out) }

pub gate_open : (head : List ℕ) (ps : List (List ℕ)) (p seen seen' : List ℕ) (m m' : List ℕ → Type 0) (gate : ℕ) → gate ≡ length (head ++ records ps) → IsAjar (head ++ records ps) p seen m → Holds seen gate (1 ∷ []) seen' → Only seen' m' → IsShut (head ++ records (ps ++ p ∷ [])) seen' m'
gate_open head ps p seen seen' m m' gate is ajar holds only =
    record { gate = 0; closed = λ no. absurd (cc no); each = λ c out. (ajar.tail, gate_written (head ++ records ps) seen seen' m m' gate is p 1 ajar holds only c out ∙ behind_open head ps p ajar.tail) }

-- what a crash in the middle of these writes opens to
pub stage_opens : (head : List ℕ) (ps : List (List ℕ)) (seen : List ℕ) (m : List ℕ → Type 0) (gate n : ℕ) → gate ≡ length (head ++ records ps) → gate < 2 ^ 30 → AllFit ps → IsShut (head ++ records ps) seen m
    → (c : List ℕ) → ((d : List ℕ) × m d × Torn (gate + 1) n d c) → opened head c ≡ Some ps
stage_opens head ps seen m gate n is small fit shut c step =
    let from = shut.each step.0 (inr step.1) in
    ap (opened head) (torn_behind (head ++ records ps) step.0 from.0 c gate n shut.gate is from.1 step.2) ∙ opened_closed head ps shut.gate (drop (gate + 1) c) fit (omega arith) shut.closed

pub gate_opens : (head : List ℕ) (ps : List (List ℕ)) (p seen : List ℕ) (m : List ℕ → Type 0) (gate : ℕ) → gate ≡ length (head ++ records ps) → AllFit ps → IsAjar (head ++ records ps) p seen m
    → (c : List ℕ) → ((d : List ℕ) × m d × Torn gate 1 d c) → (opened head c ≡ Some ps) ⊎ (opened head c ≡ Some (ps ++ p ∷ []))
gate_opens head ps p seen m gate is fit ajar c step =
    let from = ajar.each step.0 (inr step.1) in
    let whole = torn_gate (head ++ records ps) step.0 (record_then p ajar.tail) c gate from.0 is from.1 step.2 in
    ⊎_elim (λ a. inl (ap (opened head) whole ∙ a)) (λ b. inr (ap (opened head) whole ∙ b)) (ajar_opens head ps (get_or c gate 0) p ajar.tail fit ajar.fits ajar.small)

pub shut_long : (base seen : List ℕ) (m : List ℕ → Type 0) → IsShut base seen m → length base + 1 ≤ length seen
shut_long base seen m shut = let from = shut.each seen (inl refl) in omega (arith, ap length from.1, length-append base (shut.gate ∷ from.0))

pub ajar_long : (base p seen : List ℕ) (m : List ℕ → Type 0) → IsAjar base p seen m → length base + 1 ≤ length seen
ajar_long base p seen m ajar = let from = ajar.each seen (inl refl) in omega (arith, ap length from.1, length-append base (from.0 ∷ record_then p ajar.tail))

-- one record stands behind a gate
same_behind : (x p t u : List ℕ) → length x ≤ 4194304 → length p ≤ 4194304 → record_then x t ≡ record_then p u → x ≡ p
same_behind x p t u xs ps same =
    let lengths : length x ≡ length p = sym (span_is x (0 ∷ t) xs) ∙ ap span same ∙ span_is p (0 ∷ u) ps in
    let rest : x ++ 0 ∷ t ≡ p ++ 0 ∷ u = ap (λ (l : List ℕ). drop 4 l) same in
    sym (take_at x (0 ∷ t) (length p) lengths) ∙ ap (λ (l : List ℕ). take (length p) l) rest ∙ take_at p (0 ∷ u) (length p) refl

pub same_doubt : (base x p seen : List ℕ) (m : List ℕ → Type 0) → IsAjar base x seen m → IsAjar base p seen m → x ≡ p
same_doubt base x p seen m a b =
    let from = a.each seen (inl refl) in
    let too = b.each seen (inl refl) in
    let rest : from.0 ∷ record_then x a.tail ≡ too.0 ∷ record_then p b.tail = append_cancel_left base (from.0 ∷ record_then x a.tail) (too.0 ∷ record_then p b.tail) (sym from.1 ∙ too.1) in
    same_behind x p a.tail b.tail a.fits b.fits (ap (λ (l : List ℕ). drop 1 l) rest)

pub on_err : {T E : Type 0} (r : Result T E) (Q : Type 0) → Q → OnErr r Q
on_err (Ok x) Q q = tt
on_err (Err e) Q q = q

pub length-framed : (p : List ℕ) → length (framed p) ≡ 5 + length p
length-framed p = omega (arith, length-append (to_be_bytes w32 (length p)) (p ++ 0 ∷ []), length-append p (0 ∷ []), length-append (to_be_bytes w32 (length p) ++ p) (0 ∷ []), length-append (to_be_bytes w32 (length p)) p, length-be (length p))
