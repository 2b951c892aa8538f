-- The records of a list have lines.
use Rattle.std.proofs.Common.{◌≡◌, ◌<◌, ◌≤◌, ℕ, List, [], ◌∷◌, length, get_or, sym, ap, subst, arith}
use Rattle.std.specs.Prelude.{All}
use Rattle.std.proofs.lemmas.List.{get_or-map, length-map}
use Rattle.std.proofs.lemmas.List.Elements.{All-append}
use Rattle.news_types.specs.declared.entry.Entry.{Entry}
use Rattle.news_types.specs.Names.{Bytes}
use Rattle.news_types.specs.History.{History}
use Rattle.news_types.specs.Members.{Each}
use Rattle.news_types.specs.Doubt.{payloads}
use Rattle.news_io.specs.declared.record.Record.{Record}
use Rattle.entry_codec.specs.Spelling.{entry_bytes}
use Rattle.entry_codec.specs.Formed.{IsEntry}
use Rattle.entry_codec.proofs.Lengths.{entry_len}
use Rattle.room_standby.specs.Holds.{bytes_of, AreOf}
use Rattle.room_standby.specs.Ships.{HasLine}

-- a payload that has a line
abbrev Fits : Bytes → Type 0
Fits x = (1 ≤ length x) × (length x ≤ 4194304)

entry_fits : (e : Entry) → IsEntry e → Fits (entry_bytes e)
entry_fits e formed = (omega arith, omega (arith, entry_len e formed))

one_fits : (x : Bytes) → Fits x → All Fits (x ∷ [])
one_fits x fits = λ k d within. subst (λ (y : Bytes). Fits y) (here k d within) fits
  where
    here : (k : ℕ) (d : Bytes) → k < length (x ∷ []) → x ≡ get_or (x ∷ []) k d
    here k d within = let zero : k ≡ 0 = omega (arith, within) in ap (λ (n : ℕ). get_or (x ∷ []) n d) (sym zero)

all_fit : (h : History) → Each IsEntry h → All Fits (payloads entry_bytes h)
all_fit [] each = λ k d within. absurd (omega (arith, within))
all_fit (e ∷ h) each = All-append Fits (payloads entry_bytes h) (entry_bytes e ∷ []) (all_fit h each.1) (one_fits (entry_bytes e) (entry_fits e each.0))

pub all_lines : (records : List Record) (h : History) → AreOf records h → All HasLine records
all_lines records h a = λ k d within.
    let fits = subst (λ (l : List Bytes). All Fits l) (sym a.are) (all_fit h a.entries) in
    let here = fits k (bytes_of d) (omega (arith, within, length-map records bytes_of)) in
    subst (λ (x : Bytes). Fits x) (get_or-map bytes_of records k d (bytes_of d) within) here
