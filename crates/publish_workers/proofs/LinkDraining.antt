-- Drains of links, one behind another.
use Rattle.std.proofs.Common.{◌≡◌, ℕ, zero, suc, ◌<◌, ◌≤◌, Bool, false, List, [], ◌∷◌, ◌++◌, length, map, Option, Some, None, refl, sym, ap, ◌∙◌, subst, append-nil, append_assoc, arith}
use Rattle.std.specs.Prelude.{IsTrue, slice_get, slice_set}
use Rattle.std.proofs.lemmas.Bool.{true≢false}
use Rattle.news_types.specs.declared.entry.Entry.{Entry}
use Rattle.news_types.specs.Names.{Bytes}
use Rattle.news_types.specs.History.{moment_at}
use Rattle.news_types.specs.Books.{Book, onto}
use Rattle.news_io.specs.Keeper.{KeeperMeaning}
use Rattle.news_io.specs.Link.{LinkMeaning}
use Rattle.news_io.specs.Sink.{SinkMeaning}
use Rattle.news_io.proofs.Runs.{elapses_same}
use Rattle.news_room.specs.Claims.{ClaimStep, claim_entries}
use Rattle.news_room.specs.Stands.{Stands, numbers}
use Rattle.news_room.specs.Steps.{After}
use Rattle.news_room.specs.declared.claim.Claimed.{Claimed}
use Rattle.news_room.specs.declared.room.Room.{Room}
use Rattle.news_room.proofs.Going.{after_then}
use Rattle.publish_workers.specs.declared.worked.Worked.{Worked}
use Rattle.publish_workers.specs.declared.worked.Worked.TheVariants.{Idle}
use Rattle.publish_workers.specs.declared.drain.Drained as ends
use Rattle.publish_workers.specs.declared.drain.Drained.{Drained}
use Rattle.publish_workers.specs.Turns.{Exchange, Turn, word, is_store_fault}
use Rattle.publish_workers.specs.Steps.{later_entries, turn_entries, Exchanges}
use Rattle.publish_workers.specs.Drains.{report_of, line_of, last_line, Prints, DrainHappens}
use Rattle.publish_workers.specs.LinkDrains.{LinkDrain, is_idle, AllIdle, AllIdleButLast, behind, DrainsLink, DrainLinks, LinksDrained}
use Rattle.publish_workers.proofs.Complete.{job_idle}

-- ---- ends

-- one that is not idle stays behind others
pub ended_behind : (lost refused : Bool) (d : Drained) → ((a b : Bool) → d ≡ ends.Drained.Idle a b → ⊥) → d ≡ behind (ends.Drained.Idle lost refused) d
ended_behind lost refused (ends.Drained.Idle a b) other = absurd (other a b refl)
ended_behind lost refused ends.Drained.StoreFault other = refl
ended_behind lost refused ends.Drained.OutputFault other = refl
ended_behind lost refused (ends.Drained.Full size count) other = refl
ended_behind lost refused ends.Drained.Memory other = refl

pub not_idle : (d : Drained) → ((a b : Bool) → d ≡ ends.Drained.Idle a b → ⊥) → IsTrue (is_idle d) → ⊥
not_idle (ends.Drained.Idle a b) other idle = other a b refl
not_idle ends.Drained.StoreFault other idle = true≢false (sym idle)
not_idle ends.Drained.OutputFault other idle = true≢false (sym idle)
not_idle (ends.Drained.Full size count) other idle = true≢false (sym idle)
not_idle ends.Drained.Memory other idle = true≢false (sym idle)

pub but_last : (ds : List LinkDrain) → AllIdle ds → AllIdleButLast ds
but_last [] all = tt
but_last (d ∷ ds) all = all.1

-- ---- the links

set_other : {A : Type 0} (xs : List A) (i j : ℕ) (x : A) → i < j → slice_get (slice_set xs i x) j ≡ slice_get xs j
set_other [] i j x lt = refl
set_other (y ∷ ys) zero zero x lt = absurd (omega (arith, lt))
set_other (y ∷ ys) zero (suc j) x lt = refl
set_other (y ∷ ys) (suc i) zero x lt = absurd (omega (arith, lt))
set_other (y ∷ ys) (suc i) (suc j) x lt = set_other ys i j x (omega (arith, lt))

module _ {L : Type 0} (link : LinkMeaning L) where
  -- those behind the last drain are as they were
  pub untouched : (old new : List L) (ds : List LinkDrain) (i : ℕ) → DrainLinks link old new ds → length ds ≤ i → slice_get new i ≡ slice_get old i
  untouched old new [] i drains le = ap (λ (l : List L). slice_get l i) drains
  untouched old new (d ∷ ds) i drains le =
      ap (λ (l : List L). slice_get l i) drains.6 ∙ set_other drains.0 (length ds) i drains.2 (omega (arith, le)) ∙ untouched old drains.0 ds i drains.3 (omega (arith, le))

  -- the next one is as it was
  pub next_there : (old now : List L) (ds : List LinkDrain) (i : ℕ) (one : L) → length ds ≡ i → DrainLinks link old now ds → slice_get now i ≡ Some one → slice_get old (length ds) ≡ Some one
  next_there old now ds i one place drains there = sym (untouched old now ds (length ds) drains (omega arith)) ∙ ap (λ (j : ℕ). slice_get now j) place ∙ there

  pub links_more : (old now : List L) (ds : List LinkDrain) (i : ℕ) (d : LinkDrain) (one other : L) → length ds ≡ i → DrainLinks link old now ds → slice_get now i ≡ Some one → DrainsLink link one other d
      → DrainLinks link old (slice_set now i other) (d ∷ ds)
  links_more old now ds i d one other place drains there drained =
      (now, one, other, drains, next_there old now ds i one place drains there, drained, ap (λ (j : ℕ). slice_set now j other) (sym place))

  -- the subscribers of the next one
  pub served_there : (links : List L) (i : ℕ) (one : L) → slice_get links i ≡ Some one → slice_get (map link.serves links) i ≡ Some (link.serves one)
  served_there [] i one is = absurd (none one is)
    where
      none : (one : L) → None ≡ Some one → ⊥
      none one is = cc
  served_there (l ∷ links) zero one is = let same' : l ≡ one = cc in ap (λ (x : L). Some (link.serves x)) same'
  served_there (l ∷ links) (suc i) one is = served_there links i one is

  map_set : (links : List L) (i : ℕ) (one other : L) → slice_get links i ≡ Some one → link.serves other ≡ link.serves one → map link.serves (slice_set links i other) ≡ map link.serves links
  map_set [] i one other is same' = refl
  map_set (l ∷ links) zero one other is same' = let first : l ≡ one = cc in ap (λ (names : List Bytes). names ∷ map link.serves links) (same' ∙ ap link.serves (sym first))
  map_set (l ∷ links) (suc i) one other is same' = ap (λ (all : List (List Bytes)). link.serves l ∷ all) (map_set links i one other is same')

  -- all serve the same subscribers as before
  pub links_serve : (old new : List L) (ds : List LinkDrain) → DrainLinks link old new ds → map link.serves new ≡ map link.serves old
  links_serve old new [] drains = ap (λ (l : List L). map link.serves l) drains
  links_serve old new (d ∷ ds) drains =
      let there : slice_get drains.0 (length ds) ≡ Some drains.1 = untouched old drains.0 ds (length ds) drains.3 (omega arith) ∙ drains.4 in
      ap (λ (l : List L). map link.serves l) drains.6 ∙ map_set drains.0 (length ds) drains.1 drains.2 there drains.5.serves ∙ links_serve old drains.0 ds drains.3

-- ---- the room

module _ {K : Type 0} (keeper : KeeperMeaning K) where
  all_kept : (left between new : Room K) (b : Book) (names : List Bytes) (reading : ℕ) (first later : List Entry) (next : Option ℕ) (x : Exchange) → ClaimStep (numbers keeper left between) b reading names first (Claimed.Idle next)
      → Exchanges keeper between new (onto first b) (Claimed.Idle next) x later → claim_entries b.list names (moment_at b.list reading) ++ later_entries (onto first b).list (Claimed.Idle next) x ≡ first ++ later
  all_kept left between new b names reading first later next x step e = ap (λ (l : List Entry). l ++ []) (sym step.1.whole.is) ∙ ap (λ (l : List Entry). first ++ l) (sym e.2)

  -- a drain that ended with none ready kept all that should follow
  idle_keeps : (left new : Room K) (b : Book) (names : List Bytes) (t : Turn) (ts : List Turn) (more : List Entry) (next : Option ℕ) → (happens : DrainHappens keeper left new b names t ts more) → word t ≡ Idle next
      → happens.before ++ turn_entries (onto happens.before b) names t happens.first ≡ more
  idle_keeps left new b names t ts more next happens idle =
      let is : t.claimed ≡ Claimed.Idle next = job_idle t.claimed t.exchange next idle in
      let d : Book = onto happens.before b in
      ap (λ (l : List Entry). happens.before ++ l)
      (ap (λ (c : Claimed). claim_entries d.list names (moment_at d.list t.reading) ++ later_entries (onto happens.first d).list c t.exchange) is
      ∙ all_kept happens.left happens.between new d names t.reading happens.first happens.later next t.exchange (subst (λ (c : Claimed). ClaimStep (numbers keeper happens.left happens.between) d t.reading names happens.first c) is happens.last.claim.step)
      (subst (λ (c : Claimed). Exchanges keeper happens.between new (onto happens.first d) c t.exchange happens.later) is happens.last.exchange))
      ∙ sym happens.more_is

  -- drains that all ended so
  pub record LinkChain (old left : Room K) (b : Book) (served : List (List Bytes)) (ds : List LinkDrain) (more : List Entry) : Type 0 where
    pub drained : LinksDrained keeper old left b served ds more
    pub behind : After keeper old left b more more false (Unit {0})

  pub no_drains : (old : Room K) (b : Book) (served : List (List Bytes)) → Stands keeper old b → LinkChain old old b served [] []
  no_drains old b served stands =
      let none : After keeper old old b [] [] false (Unit {0}) = record {
        stands = stands;
        did = tt;
        told = λ yes. record { crash = elapses_same (keeper.moment old.keeper) (keeper.left_since old.keeper) _; doubt = λ payload there. there };
      } in
      record { drained = record { drains = (refl, refl); stands = stands; told = none.told }; behind = none }

  module _ (old left new : Room K) (b : Book) (served : List (List Bytes)) (ds : List LinkDrain) (before : List Entry) (names : List Bytes) (d : LinkDrain) (chain : LinkChain old left b served ds before)
      (there : slice_get served (length ds) ≡ Some names) (happens : DrainHappens keeper left new (onto before b) names d.last d.turns d.more) where
    one_more : After keeper old new b (before ++ (happens.before ++ turn_entries (onto happens.before (onto before b)) names d.last happens.first)) (before ++ d.more) (is_store_fault (word d.last)) (Unit {0})
    one_more =
        let should : List Entry = happens.before ++ turn_entries (onto happens.before (onto before b)) names d.last happens.first in
        let two : After keeper left new (onto before b) should d.more (is_store_fault (word d.last)) (Unit {0}) = record { stands = happens.stands; did = tt; told = happens.told } in
        after_then keeper old left new b before should before d.more (is_store_fault (word d.last)) (Unit {0}) (Unit {0}) (Unit {0}) refl chain.behind two tt

    pub drained_more : LinksDrained keeper old new b served (d ∷ ds) (before ++ d.more)
    drained_more = record { drains = (left, before, names, chain.drained.drains, there, happens, refl); stands = one_more.stands; told = one_more.told }

    pub chain_more : (next : Option ℕ) → word d.last ≡ Idle next → LinkChain old new b served (d ∷ ds) (before ++ d.more)
    chain_more next idle = record {
      drained = drained_more;
      behind = subst (λ (f : Bool). After keeper old new b (before ++ d.more) (before ++ d.more) f (Unit {0})) (ap is_store_fault idle)
          (subst (λ (l : List Entry). After keeper old new b (before ++ l) (before ++ d.more) (is_store_fault (word d.last)) (Unit {0})) (idle_keeps left new (onto before b) names d.last d.turns d.more next happens idle) one_more);
    }

-- ---- the output

-- the last turn of a drain that ended with none ready has no line
idle_line : (t : Turn) (next : Option ℕ) → word t ≡ Idle next → last_line t ≡ []
idle_line t next idle = ap (λ (w : Worked). line_of (report_of w)) idle

front_none : (front rest : Bytes) → [] ≡ front ++ rest → front ≡ []
front_none [] rest is = refl
front_none (b ∷ front) rest is = absurd (no (b) (front ++ rest) is)
  where
    no : (b : ℕ) (bs : Bytes) → [] ≡ b ∷ bs → ⊥
    no b bs is = cc

module _ {O : Type 0} (sink : SinkMeaning O) where
  -- lines behind lines
  lines_behind : (old mid new : O) (before lines front : Bytes) → sink.taken mid ≡ sink.taken old ++ before → sink.taken new ≡ sink.taken mid ++ (lines ++ front) → sink.taken new ≡ sink.taken old ++ ((before ++ lines) ++ front)
  lines_behind old mid new before lines front taken more =
      more ∙ ap (λ (l : Bytes). l ++ (lines ++ front)) taken ∙ append_assoc (sink.taken old) before (lines ++ front) ∙ ap (λ (l : Bytes). sink.taken old ++ l) (sym (append_assoc before lines front))

  pub prints_behind : (old mid new : O) (before lines last : Bytes) → sink.taken mid ≡ sink.taken old ++ before → Prints sink mid new lines last → Prints sink old new (before ++ lines) last
  prints_behind old mid new before lines last taken prints = record {
    tells = prints.tells;
    front = prints.front;
    first = prints.first;
    taken = lines_behind old mid new before lines prints.front taken prints.taken;
  }

  pub prints_idle : (old mid new : O) (before lines : Bytes) (t : Turn) (next : Option ℕ) → word t ≡ Idle next → sink.taken mid ≡ sink.taken old ++ before → Prints sink mid new lines (last_line t) → sink.taken new ≡ sink.taken old ++ (before ++ lines)
  prints_idle old mid new before lines t next idle taken prints =
      let none : prints.front ≡ [] = front_none prints.front prints.first.0 (sym (idle_line t next idle) ∙ prints.first.1) in
      let all : sink.taken new ≡ sink.taken old ++ ((before ++ lines) ++ prints.front) = lines_behind old mid new before lines prints.front taken prints.taken in
      all ∙ ap (λ (l : Bytes). sink.taken old ++ ((before ++ lines) ++ l)) none ∙ ap (λ (l : Bytes). sink.taken old ++ l) (append-nil (before ++ lines))
