-- What follows from the definition of the requests of an input.
use Rattle.std.specs.Prelude.{◌≡◌, ℕ, List, ◌++◌}
use Rattle.http_wire.specs.declared.request.HttpRequest.{HttpRequest}
use Rattle.http_wire.specs.Requests.{Asks, Ending, head_fault, Ends, Requests}
use Rattle.http_wire.specs.Unfinished.{IsUnfinished}

-- an input has one list of requests and one ending
abbrev pub AreUnique : Type 0
AreUnique = (input : List ℕ) (rs qs : List HttpRequest) (e f : Ending) → Requests input rs e → Requests input qs f → (rs ≡ qs) × (e ≡ f)

-- no request begins an input that has an ending
abbrev pub AreApart : Type 0
AreApart = (input : List ℕ) (r : HttpRequest) (left : List ℕ) (e : Ending) → Asks input r left → Ends input e → ⊥

-- no request stands whole in unfinished bytes, and the one ending that they can have come what may is that they are no head
abbrev pub AreOpen : Type 0
AreOpen = (bytes : List ℕ) → IsUnfinished bytes → ((r : HttpRequest) (left : List ℕ) → Asks bytes r left → ⊥) × ((e : Ending) → ((more : List ℕ) → Ends (bytes ++ more) e) → e ≡ head_fault)

-- no input is without them
abbrev pub AreTotal : Type 0
AreTotal = (input : List ℕ) → ¬ (¬ ((rs : List HttpRequest) × (e : Ending) × Requests input rs e))
