-- What of a store has one limit, and how much of it a list uses.
use Rattle.std.specs.Prelude.{ℕ, ◌*◌, Bool, nat_lt, List, [], ◌∷◌, ◌++◌, length, codes, decimal}
use Rattle.std.specs.List.{filter, flat_map}
use Rattle.news_types.specs.declared.words.Thing.{Thing}
use Rattle.news_types.specs.declared.words.Thing.TheVariants as thing
use Rattle.news_types.specs.Names.{Bytes}
use Rattle.news_types.specs.History.{History}
use Rattle.news_types.specs.Users.{user_count}
use Rattle.news_types.specs.Desks.{desk_count}
use Rattle.news_types.specs.Conditions.{condition_count}
use Rattle.news_types.specs.Filters.{filters}
use Rattle.news_types.specs.Products.{product_count, subscribers}
use Rattle.news_types.specs.Routing.{scheme_count, provider_count}
use Rattle.news_types.specs.Publications.{item_count, pubs}
use Rattle.news_types.specs.Denial as denial
use Rattle.news_room.specs.Stands.{LIMIT}
use Rattle.desk_views.specs.declared.question.Register.{Register}
use Rattle.desk_views.specs.declared.question.Register.TheVariants as register
use Rattle.list_marks.specs.declared.limited.Limited.{Limited}
use Rattle.list_marks.specs.declared.limited.Limited.TheVariants.{Items, Publications, Log, Things}

-- ---- things that have names

abbrev pub thing_of : Register → Thing
thing_of register.Users = thing.User
thing_of register.Desks = thing.Desk
thing_of register.Conditions = thing.Condition
thing_of register.Filters = thing.Filter
thing_of register.Products = thing.Product
thing_of register.Subscribers = thing.Subscriber
thing_of register.Schemes = thing.Scheme
thing_of register.Providers = thing.Provider

abbrev pub plural : Register → Bytes
plural register.Users = codes "users"
plural register.Desks = codes "desks"
plural register.Conditions = codes "conditions"
plural register.Filters = codes "filters"
plural register.Products = codes "products"
plural register.Subscribers = codes "subscribers"
plural register.Schemes = codes "schemes"
plural register.Providers = codes "providers"

-- how many there are: the number by which one more is denied
abbrev pub count_of : History → Register → ℕ
count_of h register.Users = user_count h
count_of h register.Desks = desk_count h
count_of h register.Conditions = condition_count h
count_of h register.Filters = length (filters h)
count_of h register.Products = product_count h
count_of h register.Subscribers = length (subscribers h)
count_of h register.Schemes = scheme_count h
count_of h register.Providers = provider_count h

-- ---- all that has a limit

-- in the order in which it is told
abbrev pub all_limited : List Limited
all_limited =
    Items ∷ Publications ∷ Log ∷ Things register.Users ∷ Things register.Desks ∷ Things register.Conditions ∷ Things register.Filters
    ∷ Things register.Products ∷ Things register.Subscribers ∷ Things register.Schemes ∷ Things register.Providers ∷ []

abbrev pub word_of : Limited → Bytes
word_of Items = codes "items"
word_of Publications = codes "publications"
word_of Log = codes "log"
word_of (Things of) = plural of

-- of the log it is what everything but a stop and a halt may use
abbrev pub limit_of : Limited → ℕ
limit_of Items = denial.limit_of thing.Item
limit_of Publications = denial.limit_of thing.Publication
limit_of Log = LIMIT
limit_of (Things of) = denial.limit_of (thing_of of)

-- how much of it a list uses, beside a log of so many bytes
abbrev pub used_of : History → ℕ → Limited → ℕ
used_of h size Items = item_count h
used_of h size Publications = length (pubs h)
used_of h size Log = size
used_of h size (Things of) = count_of h of

-- ---- as lines

unfoldable pub limit_line : Limited → ℕ → Bytes
limit_line limited used =
    codes "{\"limit\":" ++ decimal (limit_of limited) ++ codes ",\"of\":\"" ++ word_of limited ++ codes "\",\"used\":" ++ decimal used ++ codes "}\n"

abbrev pub line_in : History → ℕ → Limited → Bytes
line_in h size limited = limit_line limited (used_of h size limited)

-- of a list, beside a log of so many bytes
abbrev pub limits_lines : History → ℕ → Bytes
limits_lines h size = flat_map (line_in h size) all_limited

-- ---- what is near its limit

-- so much of it is more than 80 of 100 of its limit
abbrev pub is_near : Limited → ℕ → Bool
is_near limited used = nat_lt (80 * limit_of limited) (used * 100)

abbrev pub is_near_in : History → ℕ → Limited → Bool
is_near_in h size limited = is_near limited (used_of h size limited)

-- of a list, beside a log of so many bytes
abbrev pub near_limits : History → ℕ → List Limited
near_limits h size = filter (is_near_in h size) all_limited
