-- Which products and subscribers the table keeps.
use Rattle.std.specs.Prelude.{◌≡◌, ℕ, List, length, Option, is_some, option_map, vec_len}
use Rattle.std.specs.HashMap.{get, hash_map_len}
use Rattle.news_types.specs.Names.{Bytes, same, is_in, AreInOrder}
use Rattle.news_types.specs.History.{History}
use Rattle.news_types.specs.Products.{Product, Subscriber, product, product_count, subscriber, subscribers}
use Rattle.products.specs.declared.table.KeptProduct.{KeptProduct}
use Rattle.products.specs.declared.table.KeptSubscriber.{KeptSubscriber}
use Rattle.products.specs.declared.table.Terms.{Terms}
use Rattle.products.specs.declared.table.Products.{Products}

-- the product that is kept
abbrev pub product_of : KeptProduct → Product
product_of kept = record { how = kept.how; filter = kept.filter }

-- the subscriber that is kept
abbrev pub subscriber_of : KeptSubscriber → Subscriber
subscriber_of kept = record { format = kept.format; active = kept.active; products = kept.products; off = kept.off; lag = kept.lag }

-- its format, and its lag
abbrev pub terms_of : KeptSubscriber → Terms
terms_of kept = record { format = kept.format; lag = kept.lag }

-- the table keeps these facts: the product of each name, how many there are, the subscriber of each name, and the names of the subscribers
pub record Keeps (t : Products) (product : Bytes → Option Product) (count : ℕ) (subscriber : Bytes → Option Subscriber) (names : List Bytes) : Type 0 where
  pub products : (name : Bytes) → option_map product_of (get same t.products name) ≡ product name
  pub counted : hash_map_len t.products ≡ count
  pub subscribers : (name : Bytes) → option_map subscriber_of (get same t.subscribers name) ≡ subscriber name
  pub named : (name : Bytes) → is_in name t.names.items ≡ is_in name names
  pub order : AreInOrder t.names.items
  pub number : vec_len t.names ≡ length names
  pub there : (name : Bytes) → is_in name names ≡ is_some (subscriber name)

-- the table keeps the facts of the list
abbrev pub KeepsFacts : Products → History → Type 0
KeepsFacts t h = Keeps t (product h) (product_count h) (subscriber h) (subscribers h)
