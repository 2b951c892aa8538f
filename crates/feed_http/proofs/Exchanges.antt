-- One exchange more.
use Rattle.std.specs.Prelude.{◌≡◌, ℕ, ◌++◌, List, [], ◌∷◌, Result}
use Rattle.std.proofs.Common.{refl, sym, ap, ◌∙◌, subst}
use Rattle.std.proofs.lemmas.List.{append-nil, map_push, flat_map_more}
use Rattle.news_io.specs.Clock.{Gave}
use Rattle.news_io.proofs.Readings.{gave_then}
use Rattle.http_wire.specs.declared.request.HttpRequest.{HttpRequest}
use Rattle.http_wire.specs.Requests.{Asks, Begins}
use Rattle.desk_routes.specs.declared.ask.RoomAsk.{RoomAsk}
use Rattle.desk_routes.specs.declared.ask.Refusal.{Refusal}
use Rattle.feed_http.specs.declared.answers.HttpAnswer.{HttpAnswer}
use Rattle.feed_http.specs.Turns.{InTurns}
use Rattle.feed_http.specs.Exchanges.{Exchange, request_of, readings_of, requests, readings, exchange_bytes, responses, IsExchange, Turns, IsOpen, AllOpen}

begins_push : (input : List ℕ) (rs : List HttpRequest) (r : HttpRequest) (mid left : List ℕ) → Begins input rs mid → Asks mid r left → Begins input (rs ++ r ∷ []) left
begins_push input [] r mid left b a = (left, subst (λ (l : List ℕ). Asks l r left) b a, refl)
begins_push input (q ∷ rs) r mid left b a = (b.0, b.1, begins_push b.0 rs r mid left b.2 a)

pub requests_push : (input : List ℕ) (xs : List Exchange) (x : Exchange) (mid left : List ℕ) → Begins input (requests xs) mid → Asks mid x.request left → Begins input (requests (xs ++ x ∷ [])) left
requests_push input xs x mid left b a = subst (λ (l : List HttpRequest). Begins input l left) (sym (map_push request_of xs x)) (begins_push input (requests xs) x.request mid left b a)

pub readings_push : (ahead : ℕ → ℕ) (xs : List Exchange) (x : Exchange) (mid later : ℕ → ℕ) → Gave ahead (readings xs) mid → Gave mid x.taken later → Gave ahead (readings (xs ++ x ∷ [])) later
readings_push ahead xs x mid later a b = subst (λ (l : List ℕ). Gave ahead l later) (flat_map_more readings_of [] xs x) (gave_then ahead (readings xs) mid x.taken later a b)

pub turns_push : {A : Type 0} (turn : A → ℕ → Result RoomAsk Refusal → HttpAnswer → A → Type 0) (old : A) (xs : List Exchange) (x : Exchange) (mid new : A) → Turns turn old xs mid → IsExchange x → InTurns turn mid x.turns new → Turns turn old (xs ++ x ∷ []) new
turns_push turn old [] x mid new ts is t = (new, is, subst (λ r. InTurns turn r x.turns new) ts t, refl)
turns_push turn old (y ∷ xs) x mid new ts is t = (ts.0, ts.1, ts.2, turns_push turn ts.0 xs x mid new ts.3 is t)

pub open_push : (xs : List Exchange) (x : Exchange) → AllOpen xs → IsOpen x → AllOpen (xs ++ x ∷ [])
open_push [] x all is = (is, tt)
open_push (y ∷ xs) x all is = (all.0, open_push xs x all.1 is)

-- what was written, and one response more
pub said_more : (was : List ℕ) (xs : List Exchange) (x : Exchange) (mid now : List ℕ) → mid ≡ was ++ responses xs → now ≡ mid ++ exchange_bytes x → now ≡ was ++ responses (xs ++ x ∷ [])
said_more was xs x mid now before after = after ∙ ap (λ (l : List ℕ). l ++ exchange_bytes x) before ∙ flat_map_more exchange_bytes was xs x

-- nothing stands behind
pub no_tail : (was : List ℕ) (text now : List ℕ) → now ≡ was ++ text → now ≡ was ++ (text ++ [])
no_tail was text now is = is ∙ ap (λ (l : List ℕ). was ++ l) (sym (append-nil text))
