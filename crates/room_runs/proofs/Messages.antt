-- A message takes one reading of the clock, whatever it comes to.
use Rattle.std.proofs.Common.{◌≡◌, ℕ, [], ◌∷◌, refl}
use Rattle.std.specs.Prelude.{Result, Ok, Err}
use Rattle.news_types.specs.Names.{Bytes}
use Rattle.news_types.specs.History.{History}
use Rattle.news_types.specs.declared.story.Incoming.{Incoming}
use Rattle.agency_wires.specs.declared.fault.WireFault.{WireFault}
use Rattle.agency_wires.specs.declared.fault.WireFault.TheVariants as wire_fault
use Rattle.agency_runs.specs.Members.{of_told}
use Rattle.room_runs.specs.Wires.{of_incoming}

pub reading_taken : (before : ℕ) (provider : Bytes) (h : History) (at now : ℕ) (t : Result Incoming WireFault) → (of_told (of_incoming before provider) h at now t).took ≡ now ∷ []
reading_taken before provider h at now (Ok come) = refl
reading_taken before provider h at now (Err (wire_fault.Fault within is)) = refl
reading_taken before provider h at now (Err wire_fault.Memory) = refl
