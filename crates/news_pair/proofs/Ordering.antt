-- Entries whose moments do not fall, one after the other.
use Rattle.std.proofs.Common.{◌≡◌, ℕ, ◌+◌, ◌-◌, ◌≤◌, ◌<◌, List, [], ◌∷◌, ◌++◌, length, get_or, drop, cond, Bool, true, false, Option, Some, None, Ok, Err, refl, sym, ◌∙◌, ap, subst, arith}
use Rattle.std.specs.Option.{option_or}
use Rattle.std.specs.Prelude.{nat_lt, slice_get}
use Rattle.std.proofs.lemmas.Bool.Decides.{nat_tests}
use Rattle.news_types.specs.declared.entry.Entry.{Entry}
use Rattle.news_io.specs.declared.record.Record.{Record}
use Rattle.byte_formats.specs.Gives.{all_of}
use Rattle.entry_codec.specs.Commands.{entry}
use Rattle.entry_segments.specs.Segment.{InTime}
use Rattle.news_journal.specs.Opened.{places}
use Rattle.news_pair.specs.Damage.{Place, Framed}
use Rattle.news_pair.specs.Packing.{row_behind, no_later, moment_in, out_of_order, IsPackDamage}
use Rattle.news_pair.specs.declared.pack_fault.PackFault.{PackFault}
use Rattle.news_pair.specs.declared.pack_fault.PackFault.TheVariants.{DiskFault, Full, Damaged, Memory}
use Rattle.news_pair.proofs.Judging.{or_next, places_step, places_end, read_stops}

pub in_time_next : (before : ℕ) (es : List Entry) (e next : Entry) → InTime before (es ++ e ∷ []) → e.moment ≤ next.moment → InTime before ((es ++ e ∷ []) ++ next ∷ [])
in_time_next before [] e next in_time later = (in_time.0, (later, tt))
in_time_next before (x ∷ es) e next in_time later = (in_time.0, in_time_next x.moment es e next in_time.1 later)

pub row_in_order : (before : ℕ) (r : Framed) (e : Entry) → all_of entry r.1 ≡ Ok e → before ≤ e.moment → no_later before r ≡ None
unfolding no_later
row_in_order before r e read later =
    let t : nat_lt e.moment before ≡ false = grind (arith, nat_tests) in
    ap (row_behind before r) read ∙ ap (λ (b : Bool). cond b (Some (r.0, Some 1)) None) t

pub row_falls : (before : ℕ) (r : Framed) (e : Entry) → all_of entry r.1 ≡ Ok e → e.moment < before → no_later before r ≡ Some (r.0, Some 1)
unfolding no_later
row_falls before r e read less =
    let t : nat_lt e.moment before ≡ true = grind (arith, nat_tests) in
    ap (row_behind before r) read ∙ ap (λ (b : Bool). cond b (Some (r.0, Some 1)) None) t

or_damage : (a b : Option Place) (f : PackFault) → IsPackDamage a f → IsPackDamage (option_or a b) f
or_damage a b (Damaged at byte) is = ap (λ o. option_or o b) is
or_damage a b DiskFault is = tt
or_damage a b (Full size count) is = tt
or_damage a b Memory is = tt

module _ (rs : List Record) (i before : ℕ) (so_far : out_of_order 0 (places rs) ≡ out_of_order before (drop i (places rs))) where
  order_step : (r : Record) → i < length rs → r ≡ get_or rs i r
      → out_of_order 0 (places rs) ≡ option_or (no_later before (r.at, r.bytes)) (out_of_order (moment_in before (all_of entry r.bytes)) (drop (i + 1) (places rs)))
  order_step r less is = so_far ∙ ap (out_of_order before) (places_step rs i r less is)

  pub order_passed : (r : Record) (e : Entry) → i < length rs → r ≡ get_or rs i r → all_of entry r.bytes ≡ Ok e → no_later before (r.at, r.bytes) ≡ None → out_of_order 0 (places rs) ≡ out_of_order e.moment (drop (i + 1) (places rs))
  order_passed r e less is read none =
      order_step r less is ∙ or_next (no_later before (r.at, r.bytes)) _ none ∙ ap (λ x. out_of_order (moment_in before x) (drop (i + 1) (places rs))) read

  pub order_broken : (r : Record) (f : PackFault) → i < length rs → r ≡ get_or rs i r → IsPackDamage (no_later before (r.at, r.bytes)) f → IsPackDamage (out_of_order 0 (places rs)) f
  order_broken r f less is damage = subst (λ o. IsPackDamage o f) (sym (order_step r less is)) (or_damage (no_later before (r.at, r.bytes)) _ f damage)

  pub order_ended : length rs ≤ i → out_of_order 0 (places rs) ≡ None
  order_ended over = so_far ∙ ap (out_of_order before) (places_end rs i over)

pub row_stops : (before : ℕ) (r : Framed) (at : ℕ) → at ≤ length r.1 → all_of entry r.1 ≡ Err (length r.1 - at) → no_later before r ≡ Some (r.0 + 5 + at, slice_get r.1 at)
unfolding no_later
row_stops before r at within read =
    ap (row_behind before r) read ∙ read_stops {A = Entry} r (Err (length r.1 - at)) at within refl
