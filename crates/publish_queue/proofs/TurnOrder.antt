-- Turns by their moments and names.
use Rattle.std.proofs.Common.{◌≡◌, ℕ, Bool, true, ◌&&◌, ◌==◌, refl, arith}
use Rattle.std.specs.declared.cmp.Ordering.{Ordering}
use Rattle.std.specs.declared.cmp.Ordering.TheVariants.{Less, Equal, Greater}
use Rattle.std.specs.Ordering.{nat_cmp, is_eq, ordering_then}
use Rattle.std.specs.Cmp.{then_total, on_total, nat_cmp_total, first_so, second_so}
use Rattle.std.specs.Cmp.Lexicographic.{slice_cmp, on_texts, texts_ties}
use Rattle.std.proofs.lemmas.Bool.Decides.{nat_tests, Decides-eqb}
use Rattle.news_types.specs.Names.{same}
use Rattle.news_types.proofs.Members.{same_is, same_self}
use Rattle.publish_queue.specs.declared.turns.Turn.{Turn}
use Rattle.publish_queue.specs.Turns.{by_turn, same_turn}
use Rattle.publish_queue.proofs.Ascending.{IsOrder}

then_ties : (a b : Bool) (r s : Ordering) → a ≡ is_eq r → b ≡ is_eq s → (a && b) ≡ is_eq (ordering_then r s)
then_ties a b Less s e f = rw e refl
then_ties a b Equal s e f = rw e f
then_ties a b Greater s e f = rw e refl

nat_ties : (m n : ℕ) → (m == n) ≡ is_eq (nat_cmp m n)
nat_ties m n = search (arith, nat_tests)

ties : (x y : Turn) → same_turn x y ≡ is_eq (by_turn x y)
ties x y = then_ties (x.moment == y.moment) (same x.name y.name) (nat_cmp x.moment y.moment) (slice_cmp nat_cmp x.name y.name) (nat_ties x.moment y.moment) (texts_ties x.name y.name)

is : (x y : Turn) → same_turn x y ≡ true → x ≡ y
is x y e =
    let moments : x.moment ≡ y.moment = (Decides-eqb x.moment y.moment).0 (first_so (x.moment == y.moment) (same x.name y.name) e) in
    let names : x.name ≡ y.name = same_is x.name y.name (second_so (x.moment == y.moment) (same x.name y.name) e) in
    λ i. record { moment = moments i; name = names i }

self : (x : Turn) → same_turn x x ≡ true
self x = rw ((Decides-eqb x.moment x.moment).1 refl, same_self x.name) refl

pub turns_order : IsOrder by_turn same_turn
turns_order = record {
  total = then_total (on_total (λ (t : Turn). t.moment) nat_cmp_total) (on_texts (λ (t : Turn). t.name));
  ties = ties;
  is = is;
  self = self;
}
