-- What the events of one member of an input do to a world, whatever the members are.
use Rattle.std.proofs.Common.{◌≡◌, ◌⊎◌, inl, inr, ℕ, ◌<◌, ◌≤◌, Bool, true, false, nat_lt, [], ◌∷◌, ◌++◌, length, Option, Some, None, refl, sym, ap, ◌∙◌, arith}
use Rattle.std.proofs.lemmas.Bool.{ltb-false, ltb-true}
use Rattle.news_types.specs.declared.entry.Entry.{Entry}
use Rattle.news_types.specs.History.{History}
use Rattle.news_types.specs.Frames.{Writer}
use Rattle.news_types.specs.Calls.{Fate, IsKept, list_after}
use Rattle.news_types.specs.Server.{Server, put}
use Rattle.line_run.specs.Life.{Meaning}
use Rattle.news_room.specs.Steps.{entries}
use Rattle.world_laws.specs.World.{World, run}
use Rattle.program_run.specs.Opens.{size_of}
use Rattle.program_run.specs.Members.{Input, limit_of}

-- a list with the entry that follows would pass the limit of its act
abbrev pub past : Option Entry → History → Bool
past None h = false
past (Some e) h = nat_lt (limit_of e.act) (size_of (e ∷ h))

-- the outcome of each member is what its events do
pub record Means {X : Type 0} (M : Meaning Entry X) (input : Input X) : Type 0 where
  -- the entry that follows a list behind a member, if one does
  pub next : History → X → ℕ → Option Entry
  pub server : (write : Writer) (w : World) (x : X) (at : ℕ) (fate : Fate) → (run write (input.events x at fate) w).server ≡ put w.server (next w.server.list x at) fate
  pub adds : (h : History) (x : X) (at : ℕ) → (M h x at).adds ≡ entries (next h x at)
  pub passes : (h : History) (x : X) (at : ℕ) → (M h x at).passes ≡ past (next h x at) h
  pub took : (h : History) (x : X) (at : ℕ) → (M h x at).took ≡ input.readings x at
  pub text : (write : Writer) (w : World) (x : X) (at : ℕ) → (M w.server.list x at).text ≡ input.text (run write (input.events x at IsKept) w) x

pub put_list : (h : History) (o : Option Entry) → list_after h o IsKept ≡ entries o ++ h
put_list h None = refl
put_list h (Some e) = refl

-- where nothing follows, the server is as it was
pub put_moves : (c : Server) (o : Option Entry) → (put c o IsKept ≡ c) ⊎ ((length c.list < length (put c o IsKept).list) × ((put c o IsKept).doubt ≡ []))
put_moves c None = inl refl
put_moves c (Some e) = inr (omega arith, refl)

-- ---- the entry that follows

no_more : (h : History) (e : Entry) → h ≡ e ∷ h → ⊥
no_more h e is = let long : length h ≡ length (e ∷ h) = ap length is in absurd (omega (arith, long))

-- a list that has gone on by an entry has gone on by the one that follows
pub kept_next : (h : History) (o : Option Entry) (e : Entry) → list_after h o IsKept ≡ e ∷ h → o ≡ Some e
kept_next h None e is = absurd (no_more h e is)
kept_next h (Some x) e is = let same : x ≡ e = cc in ap Some same

pub next_kept : (h : History) (o : Option Entry) (e : Entry) → o ≡ Some e → list_after h o IsKept ≡ e ∷ h
next_kept h o e is = ap (λ (x : Option Entry). list_after h x IsKept) is

-- within the limit, or past it
pub not_past : (o : Option Entry) (h : History) (e : Entry) → o ≡ Some e → past o h ≡ false → size_of (e ∷ h) ≤ limit_of e.act
not_past o h e is fits = ltb-false (limit_of e.act) (size_of (e ∷ h)) (sym (ap (λ (x : Option Entry). past x h) is) ∙ fits)

pub is_past : (o : Option Entry) (h : History) (e : Entry) → o ≡ Some e → past o h ≡ true → limit_of e.act < size_of (e ∷ h)
is_past o h e is full = ltb-true (limit_of e.act) (size_of (e ∷ h)) (sym (ap (λ (x : Option Entry). past x h) is) ∙ full)
