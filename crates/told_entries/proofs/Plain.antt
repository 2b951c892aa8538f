-- A value with no float, put among members with none.
use Rattle.std.specs.Prelude.{◌≡◌, ℕ, List, Bool, false, ◌||◌}
use Rattle.std.proofs.Common.{refl}
use Rattle.std.specs.Ordering.{nat_cmp, match_ordering}
use Rattle.std.specs.Cmp.Lexicographic.{slice_cmp}
use Rattle.std.specs.declared.cmp.Ordering.{Ordering}
use Rattle.std.specs.declared.cmp.Ordering.TheVariants.{Less, Equal, Greater}
use Rattle.std.proofs.lemmas.Bool.{or_parts}
use Rattle.serde_json.specs.Data.{Data, Members, no_members, member, put}
use Rattle.serde_json.specs.Written.{has_float, members_have_float}

both : (a b : Bool) → a ≡ false → b ≡ false → (a || b) ≡ false
both a b e f = λ i. e i || f i

chosen : (o : Ordering) (x y z : Members) → members_have_float x ≡ false → members_have_float y ≡ false → members_have_float z ≡ false → members_have_float (match_ordering o x y z) ≡ false
chosen Less x y z a b c = a
chosen Equal x y z a b c = b
chosen Greater x y z a b c = c

pub put_plain : (k : List ℕ) (d : Data) (ms : Members) → has_float d ≡ false → members_have_float ms ≡ false → members_have_float (put k d ms) ≡ false
put_plain k d no_members hd hm = both (has_float d) false hd refl
put_plain k d (member l e ms) hd hm =
    let p = or_parts (has_float e) (members_have_float ms) hm in
    chosen (slice_cmp nat_cmp k l) _ _ _
    (both (has_float d) _ hd hm)
    (both (has_float d) (members_have_float ms) hd p.1)
    (both (has_float e) (members_have_float (put k d ms)) p.0 (put_plain k d ms hd p.1))
