use Rattle.std.proofs.Common.{◌≡◌, ℕ, ◌+◌, Bool, true, false, cond, [], codes, Option, Some, None, is_some, refl, sym, ap, ◌∙◌, arith}
use Rattle.std.specs.Prelude.{if◌then◌else◌}
use Rattle.std.specs.Option.{option_map}
use Rattle.std.specs.HashMap.{get}
use Rattle.std.specs.Ordering.{nat_cmp}
use Rattle.std.specs.List.Sorted.{IsStrictlySortedBy}
use Rattle.std.specs.Cmp.Lexicographic.{slice_cmp}
use Rattle.news_types.proofs.Members.{none_some}
use Rattle.news_types.specs.declared.words.How.TheVariants.{Permitting}
use Rattle.news_types.specs.Names.{Bytes, same}
use Rattle.news_types.specs.Products.{first_product}
use Rattle.products.specs.declared.table.KeptProduct.{KeptProduct}
use Rattle.products.specs.Keeps.{product_of}
use Rattle.products.proofs.Changed.{same_flip}
use Rattle.products.proofs.table.Products.new.Goals as goal

none_in_order : IsStrictlySortedBy (slice_cmp nat_cmp) []
unfolding IsStrictlySortedBy
none_in_order = tt

first : (name word : Bytes) → word ≡ codes "all" → (before : Option KeptProduct) → before ≡ None → (after : Option KeptProduct) → after ≡ cond (same word name) (Some (record { how = Permitting; filter = None })) before
    → option_map product_of after ≡ first_product name
first name word is before none after now =
    ap (option_map product_of) (
    now
    ∙ ap (λ w. cond (same w name) (Some (record { how = Permitting; filter = None })) before) is
    ∙ ap (λ o. cond (same (codes "all") name) (Some (record { how = Permitting; filter = None })) o) none
    ∙ ap (λ b. cond b (Some (record { how = Permitting; filter = None })) None) (same_flip (codes "all") name)
    )
    ∙ shown (same name (codes "all"))
  where
    shown : (b : Bool) → option_map product_of (cond b (Some (record { how = Permitting; filter = None })) None) ≡ cond b (Some (record { how = Permitting; filter = None })) None
    shown true = refl
    shown false = refl

one : (old : Option KeptProduct) → old ≡ None → (n m : ℕ) → n ≡ 0 → m ≡ n + (if is_some old then 0 else 1) → m ≡ 1
one None none n m e f = omega (arith, e, f)
one (Some kept) none n m e f = absurd (none_some kept (sym none))

pub returns : goal.returns
returns c =
    record {
      products = λ name. first name c.all.result c.all.ensures (get same c.new-products.result name) (rw c.new-products.ensures.empty refl) (get same c.insert.new.self name) (c.in_ok-insert.ensures.updates.0 name);
      counted = one c.in_ok-insert.field-0 (c.in_ok-insert.ensures.old ∙ rw c.new-products.ensures.empty refl) _ _ c.new-products.ensures.len c.in_ok-insert.ensures.len;
      subscribers = λ name. rw c.new.ensures.empty refl;
      named = λ name. rw c.new-2.ensures.items refl;
      order = rw c.new-2.ensures.items none_in_order;
      number = c.new-2.ensures.len;
      there = λ name. refl;
    }
