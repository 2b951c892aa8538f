-- The requests of a connection, by the whole of its input.
use Rattle.std.specs.Prelude.{◌≡◌, ℕ, ◌<◌, ◌≤◌, ◌++◌, List, [], ◌∷◌, length}
use Rattle.httparse.specs.Grammar.{RequestHead, print_request, ReadsRequest, HasNoRequest, NeverHasRequest, MayBecomeRequest, EndsInTarget}
use Rattle.http_wire.specs.Limits.{most_head, front}
use Rattle.http_wire.specs.Heads.{lines, says, coded, bad_length, too_much, of_length, asker, closes_after}
use Rattle.http_wire.specs.declared.request.HttpRequest.{HttpRequest}

-- the input is this head and then the rest
pub record BeginsWith (input : List ℕ) (head : RequestHead) (rest : List ℕ) : Type 0 where
  pub reads : ReadsRequest input head rest
  pub short : length (print_request head) ≤ most_head

-- the input is this request, head and body, and then what is left
pub record Asks (input : List ℕ) (r : HttpRequest) (left : List ℕ) : Type 0 where
  pub head : RequestHead
  pub begins : BeginsWith input head (r.body ++ left)
  pub sized : says (lines head) ≡ of_length (length r.body)
  pub method : r.method ≡ head.method
  pub target : r.target ≡ head.target
  pub user : r.user ≡ asker (lines head)
  pub close : r.close ≡ closes_after head.minor (lines head)

pub data IsHeadFault (input : List ℕ) : Type 0 where
  -- no continuation of its front is a head; what a target's bytes are as a text is only asked at its end
  refused : NeverHasRequest (front input) → ¬ (EndsInTarget (front input)) → IsHeadFault input
  -- it ends before its head does
  cut_in_head : 0 < length input → length input < most_head → HasNoRequest input → IsHeadFault input
  -- its head's length of the body is not of the form
  length_fault : (head : RequestHead) (rest : List ℕ) → BeginsWith input head rest → says (lines head) ≡ bad_length → IsHeadFault input
  -- it ends before its body does
  cut_in_body : (head : RequestHead) (rest : List ℕ) (n : ℕ) → BeginsWith input head rest → says (lines head) ≡ of_length n → length rest < n → IsHeadFault input

pub data IsTooLarge (input : List ℕ) : Type 0 where
  -- its front holds no head and has a continuation that is one, or ends inside a target
  long_head : most_head ≤ length input → HasNoRequest (front input) → MayBecomeRequest (front input) → IsTooLarge input
  -- its head has a line too many, or its body a byte
  over : (head : RequestHead) (rest : List ℕ) → BeginsWith input head rest → says (lines head) ≡ too_much → IsTooLarge input

pub data IsChunked (input : List ℕ) : Type 0 where
  chunked : (head : RequestHead) (rest : List ℕ) → BeginsWith input head rest → says (lines head) ≡ coded → IsChunked input

-- why no request follows
pub data Ending : Type 0 where
  at_end head_fault too_large chunked_body : Ending

-- no request begins the input, for this reason
abbrev pub Ends : List ℕ → Ending → Type 0
Ends input at_end = input ≡ []
Ends input head_fault = IsHeadFault input
Ends input too_large = IsTooLarge input
Ends input chunked_body = IsChunked input

-- the requests at the front of the input, and what is left behind them
abbrev pub Begins : List ℕ → List HttpRequest → List ℕ → Type 0
Begins input [] left = left ≡ input
Begins input (r ∷ rs) left = (rest : List ℕ) × Asks input r rest × Begins rest rs left

-- all requests of the input, and its ending
abbrev pub Requests : List ℕ → List HttpRequest → Ending → Type 0
Requests input rs end = (left : List ℕ) × Begins input rs left × Ends left end
