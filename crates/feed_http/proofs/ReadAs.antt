-- What a request asks is what it is read as.
use Rattle.std.proofs.Common.{◌≡◌, Ok, Err, subst}
use Rattle.desk_routes.specs.declared.ask.RoomAsk.{RoomAsk}
use Rattle.desk_routes.specs.declared.ask.WireAsk.{WireAsk}
use Rattle.desk_routes.specs.declared.ask.HttpAsked.{HttpAsked}
use Rattle.desk_routes.specs.declared.ask.HttpAsked.TheVariants.{Room, Wire}
use Rattle.desk_routes.specs.declared.ask.Refusal.{Refusal}
use Rattle.desk_routes.specs.Asking.{asked, IsSaid}
use Rattle.http_wire.specs.declared.request.HttpRequest.{HttpRequest}
use Rattle.feed_http.specs.Outcome.{asks, IsRead}

pub read_room : (request : HttpRequest) (read : HttpAsked) (a : RoomAsk) → asked request ≡ Ok read → read ≡ Room a → IsRead request (Ok a)
unfolding asks
read_room request read a said same = subst (λ (x : HttpAsked). asked request ≡ Ok x) same said

pub read_wire : (request : HttpRequest) (read : HttpAsked) (w : WireAsk) → asked request ≡ Ok read → read ≡ Wire w → asks request ≡ Ok (Wire w)
unfolding asks
read_wire request read w said same = subst (λ (x : HttpAsked). asked request ≡ Ok x) same said

pub read_not : (request : HttpRequest) (refusal : Refusal) → IsSaid (asked request) (Err refusal) → IsRead request (Err refusal)
unfolding asks
read_not request refusal said = said
