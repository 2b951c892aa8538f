-- What follows where a reader stops.
use Rattle.std.specs.Prelude.{◌≡◌, ℕ, ◌<◌, ◌++◌, List, length}
use Rattle.std.proofs.Common.{refl, inl, inr}
use Rattle.httparse.specs.Grammar.{RequestHead}
use Rattle.http_wire.specs.Heads.{says, lines, of_length}
use Rattle.http_wire.specs.Requests.{BeginsWith, refused, length_fault, cut_in_body, long_head, over, chunked}
use Rattle.http_wire.specs.Unfinished.{IsUnfinished, in_body}
use Rattle.http_wire.specs.Wires.{IsWire, IsAtHand, IsShort, CountsWire, stop_wire}
use Rattle.http_wire.specs.Steps.{IsUnread, IsCutShort, IsNoHead, IsSaid}
use Rattle.http_wire.specs.declared.stop.Stop.{Stop}
use Rattle.http_wire.specs.declared.stop.Stop.TheVariants.{End, HeadFault, TooLarge, Chunked, ReadFault, Memory}
use Rattle.http_wire.proofs.FrontLemmas.{refused_later, long_later}

-- no request comes, and so no body
pub no_body : (why : Stop) → IsShort (stop_wire why)
no_body End = tt
no_body HeadFault = tt
no_body TooLarge = tt
no_body Chunked = tt
no_body ReadFault = tt
no_body Memory = tt

-- ---- a read

pub unread_cut : (why : Stop) → IsUnread why → IsCutShort why
unread_cut End is = is
unread_cut HeadFault is = tt
unread_cut TooLarge is = is
unread_cut Chunked is = is
unread_cut ReadFault is = is
unread_cut Memory is = is

pub unread_wire : (input left : List ℕ) (why : Stop) → IsUnread why → left ≡ input → IsWire input left (stop_wire why)
unread_wire input left End is same = absurd is
unread_wire input left HeadFault is same = absurd is
unread_wire input left TooLarge is same = absurd is
unread_wire input left Chunked is same = absurd is
unread_wire input left ReadFault is same = same
unread_wire input left Memory is same = same

pub unread_at_hand : (bytes : List ℕ) (why : Stop) → IsUnread why → IsUnfinished bytes → IsAtHand bytes (stop_wire why)
unread_at_hand bytes End is begun = absurd is
unread_at_hand bytes HeadFault is begun = absurd is
unread_at_hand bytes TooLarge is begun = absurd is
unread_at_hand bytes Chunked is begun = absurd is
unread_at_hand bytes ReadFault is begun = begun
unread_at_hand bytes Memory is begun = inl begun

-- ---- no head

pub no_head_wire : (bytes ahead : List ℕ) (why : Stop) → IsNoHead bytes why → IsWire (bytes ++ ahead) (bytes ++ ahead) (stop_wire why)
no_head_wire bytes ahead HeadFault is = (refused_later bytes ahead is.0 is.1, refl)
no_head_wire bytes ahead TooLarge is = (long_later bytes ahead is.0 is.1 is.2, refl)
no_head_wire bytes ahead End is = absurd is
no_head_wire bytes ahead Chunked is = absurd is
no_head_wire bytes ahead ReadFault is = absurd is
no_head_wire bytes ahead Memory is = absurd is

pub no_head_at_hand : (bytes : List ℕ) (why : Stop) → IsNoHead bytes why → IsAtHand bytes (stop_wire why)
no_head_at_hand bytes HeadFault is = refused is.0 is.1
no_head_at_hand bytes TooLarge is = long_head is.0 is.1 is.2
no_head_at_hand bytes End is = absurd is
no_head_at_hand bytes Chunked is = absurd is
no_head_at_hand bytes ReadFault is = absurd is
no_head_at_hand bytes Memory is = absurd is

pub no_head_count : (n m : ℕ) (bytes : List ℕ) (why : Stop) → IsNoHead bytes why → m ≡ n → CountsWire n m (stop_wire why)
no_head_count n m bytes HeadFault is same = same
no_head_count n m bytes TooLarge is same = same
no_head_count n m bytes End is same = absurd is
no_head_count n m bytes Chunked is same = absurd is
no_head_count n m bytes ReadFault is same = absurd is
no_head_count n m bytes Memory is same = absurd is

-- ---- a whole head

module _ (head : RequestHead) where
  pub said_wire : (input rest : List ℕ) → BeginsWith input head rest → (e : Stop) → IsSaid (says (lines head)) e → IsWire input input (stop_wire e)
  said_wire input rest begins Chunked is = (chunked head rest begins is, refl)
  said_wire input rest begins HeadFault is = (length_fault head rest begins is, refl)
  said_wire input rest begins TooLarge is = (over head rest begins is, refl)
  said_wire input rest begins Memory is = refl
  said_wire input rest begins End is = absurd is
  said_wire input rest begins ReadFault is = absurd is

  pub said_at_hand : (bytes rest : List ℕ) → BeginsWith bytes head rest → (e : Stop) → IsSaid (says (lines head)) e → IsAtHand bytes (stop_wire e)
  said_at_hand bytes rest begins Chunked is = chunked head rest begins is
  said_at_hand bytes rest begins HeadFault is = length_fault head rest begins is
  said_at_hand bytes rest begins TooLarge is = over head rest begins is
  said_at_hand bytes rest begins Memory is = inr (head, rest, begins)
  said_at_hand bytes rest begins End is = absurd is
  said_at_hand bytes rest begins ReadFault is = absurd is

  pub said_count : (n : ℕ) (e : Stop) → IsSaid (says (lines head)) e → CountsWire n n (stop_wire e)
  said_count n Chunked is = refl
  said_count n HeadFault is = refl
  said_count n TooLarge is = refl
  said_count n Memory is = refl
  said_count n End is = absurd is
  said_count n ReadFault is = absurd is

  -- fewer bytes than the body has
  pub cut_wire : (input left rest : List ℕ) (n : ℕ) → BeginsWith input head rest → says (lines head) ≡ of_length n → left ≡ input → (e : Stop) → IsCutShort e → (e ≡ HeadFault → length rest < n) → IsWire input left (stop_wire e)
  cut_wire input left rest n begins is same HeadFault cut short = (cut_in_body head rest n begins is (short refl), same)
  cut_wire input left rest n begins is same ReadFault cut short = same
  cut_wire input left rest n begins is same Memory cut short = same
  cut_wire input left rest n begins is same End cut short = absurd cut
  cut_wire input left rest n begins is same TooLarge cut short = absurd cut
  cut_wire input left rest n begins is same Chunked cut short = absurd cut

  pub cut_at_hand : (bytes rest : List ℕ) (n : ℕ) → BeginsWith bytes head rest → says (lines head) ≡ of_length n → length rest < n → (e : Stop) → IsCutShort e → IsAtHand bytes (stop_wire e)
  cut_at_hand bytes rest n begins is less HeadFault cut = cut_in_body head rest n begins is less
  cut_at_hand bytes rest n begins is less ReadFault cut = in_body head rest n begins is less
  cut_at_hand bytes rest n begins is less Memory cut = inl (in_body head rest n begins is less)
  cut_at_hand bytes rest n begins is less End cut = absurd cut
  cut_at_hand bytes rest n begins is less TooLarge cut = absurd cut
  cut_at_hand bytes rest n begins is less Chunked cut = absurd cut
