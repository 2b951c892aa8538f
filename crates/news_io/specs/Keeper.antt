-- Records of a keeper, and what a crash leaves of them.
use Rattle.std.specs.Prelude.{◌≡◌, ◌⊎◌, ℕ, ◌+◌, ◌-◌, ◌≤◌, ◌<◌, List, [], ◌∷◌, ◌++◌, length, take, drop, Option, Some, Result, Ok, Err}
use Rattle.std.specs.Int.{w32, to_be_bytes}
use Rattle.news_io.specs.declared.keeper.AppendFault.{AppendFault}
use Rattle.news_io.specs.declared.keeper.AppendFault.TheVariants.{Fault, Full}
use Rattle.news_io.specs.Faults.{Rose}
use Rattle.news_io.specs.Moments.{Elapses}

-- four bytes of length, the payload, and a closed gate
abbrev pub framed : List ℕ → List ℕ
framed payload = to_be_bytes w32 (length payload) ++ payload ++ 0 ∷ []

abbrev pub payload_of : List ℕ → List ℕ
payload_of bytes = take (length bytes - 5) (drop 4 bytes)

-- the frame of a payload, which may be empty and has at most 4 MiB
pub record IsFramed (bytes : List ℕ) : Type 0 where
  pub is : bytes ≡ framed (payload_of bytes)
  pub fits : length (payload_of bytes) ≤ 4194304

-- Full is answered exactly where the record would pass the limit, with the bytes in use and the payload's length.
abbrev pub IsFullExactly : ℕ → ℕ → List ℕ → Result (Unit {0}) AppendFault → Type 0
IsFullExactly used limit bytes (Err (Full size count)) = (limit < used + length bytes) × (size ≡ used) × (count ≡ length (payload_of bytes))
IsFullExactly used limit bytes r = used + length bytes ≤ limit

-- A fault is answered only where the count rose, and without one it is as it was.
abbrev pub FaultCounts : ℕ → ℕ → Result (Unit {0}) AppendFault → Type 0
FaultCounts before now (Err Fault) = Rose before now
FaultCounts before now r = now ≡ before

pub record AppendCounts (before now : ℕ) (result : Result (Unit {0}) AppendFault) : Type 0 where
  pub later : before ≤ now
  pub fault : FaultCounts before now result

-- Full comes before any device call.
abbrev pub CallsNone : ℕ → ℕ → Result (Unit {0}) AppendFault → Type 0
CallsNone before now (Err (Full size count)) = now ≡ before
CallsNone before now r = Unit {0}

-- device calls of an append that makes at most so many
pub record AppendCalls (before now most : ℕ) (result : Result (Unit {0}) AppendFault) : Type 0 where
  pub later : before ≤ now
  pub at_most : now ≤ before + most
  pub full : CallsNone before now result

-- Ok ends all doubt, a fault adds the payload to it, and Full adds nothing.
abbrev pub DoubtsAfter : (List ℕ → Type 0) → (List ℕ → Type 0) → List ℕ → Result (Unit {0}) AppendFault → Type 0
DoubtsAfter old new payload (Ok u) = (x : List ℕ) → new x → ⊥
DoubtsAfter old new payload (Err Fault) = (x : List ℕ) → new x → old x ⊎ (x ≡ payload)
DoubtsAfter old new payload (Err (Full size count)) = (x : List ℕ) → new x → old x

-- the list, or the list with one payload in doubt at its end
abbrev pub Leaves : List (List ℕ) → (List ℕ → Type 0) → Option (List (List ℕ)) → Type 0
Leaves list doubts opened = (opened ≡ Some list) ⊎ ((x : List ℕ) × doubts x × (opened ≡ Some (list ++ x ∷ [])))

-- what a crash during a call may leave: what it could leave before the call, or what it can leave after it
abbrev pub BeforeOrAfter : List (List ℕ) → (List ℕ → Type 0) → List (List ℕ) → (List ℕ → Type 0) → Option (List (List ℕ)) → Type 0
BeforeOrAfter list doubts list' doubts' opened = Leaves list doubts opened ⊎ Leaves list' doubts' opened

-- what a keeper means
pub record KeeperMeaning (K : Type 0) : Type 1 where
  -- whose list it is: the identifier of the store, where a store has the list
  pub label : K → List ℕ
  -- how often its device has failed; a counter of 64 bits stays at its last value
  pub faults : K → ℕ
  -- how many device calls were made; it may count fewer, and never more
  pub calls : K → ℕ
  -- the most device calls that the next append makes
  pub most_calls : K → ℕ
  -- the bytes in use
  pub used : K → ℕ
  -- holds of a keeper that tells its list
  pub tells : K → Type 0
  -- the payloads that are kept
  pub list : K → List (List ℕ)
  -- a payload that a crash may leave at the list's end
  pub doubts : K → List ℕ → Type 0
  -- the moment, as a number that never falls
  pub moment : K → ℕ
  -- what opening after a crash at some moment from that one on might have found: a list, or none
  pub left_since : K → ℕ → Option (List (List ℕ)) → Type 0
  -- a crash now leaves the list, or the list with one payload in doubt at its end
  pub leaves_now : (k : K) (opened : Option (List (List ℕ))) → tells k → left_since k (moment k) opened → Leaves (list k) (doubts k) opened

-- over a call, what a crash since an earlier moment might leave gains only what has P
abbrev pub KeeperGains : {K : Type 0} → KeeperMeaning K → K → K → (Option (List (List ℕ)) → Type 0) → Type 0
KeeperGains keeper old new P = Elapses (keeper.moment old) (keeper.moment new) (keeper.left_since old) (keeper.left_since new) P
