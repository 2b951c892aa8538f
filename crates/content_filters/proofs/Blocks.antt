-- The last filter that stops a story is the newest that does.
use Rattle.std.proofs.Common.{◌≡◌, ℕ, ◌+◌, ◌<◌, Bool, true, false, not, ◌&&◌, ◌||◌, cond, List, [], ◌∷◌, ◌++◌, length, map, get_or, drop, Option, Some, None, refl, sym, ap, ◌∙◌, append_assoc}
use Rattle.std.proofs.lemmas.List.{map-append, at_drop_more}
use Rattle.std.proofs.lemmas.Bool.{false≢true}
use Rattle.std.specs.List.{find}
use Rattle.std.specs.Option.{option_map}
use Rattle.news_types.proofs.Members.{same_is, same_self}
use Rattle.news_types.specs.Names.{Bytes, same, is_in}
use Rattle.news_types.specs.History.{History}
use Rattle.news_types.specs.Members.{Each}
use Rattle.news_types.specs.Conditions.{condition}
use Rattle.news_types.specs.Filters.{Filter, filters, has_filter, matches}
use Rattle.news_types.specs.declared.story.Story.{Story}
use Rattle.feed_reasons.specs.Verdicts.{stops, block}
use Rattle.content_filters.specs.declared.table.KeptFilter.{KeptFilter}
use Rattle.content_filters.specs.declared.table.Filters.{Filters}
use Rattle.content_filters.specs.declared.verdicts.Verdicts.{Verdicts}
use Rattle.content_filters.specs.Kept.{kept_of, oldest_first, AreApart, is_block, verdict_at, truth}
use Rattle.content_filters.specs.Keeps.{AreVerdicts, blocks_by, names_of, else_that, last_beside}
use Rattle.content_filters.specs.Reasons.{KeepsFacts}
use Rattle.content_filters.proofs.Ages.{at_age}

-- ---- the last that passes

-- its name, or that of one before these
abbrev pub last_of : (Bytes → Bool) → Option Bytes → List KeptFilter → Option Bytes
last_of t o [] = o
last_of t o (k ∷ ks) = last_of t (cond (t k.name) (Some k.name) o) ks

last_more : (t : Bytes → Bool) (o : Option Bytes) (ks : List KeptFilter) (k : KeptFilter) → last_of t o (ks ++ k ∷ []) ≡ cond (t k.name) (Some k.name) (last_of t o ks)
last_more t o [] k = refl
last_more t o (j ∷ ks) k = last_more t (cond (t j.name) (Some j.name) o) ks k

last_is_newest : (t : Bytes → Bool) (q : Filter → Bool) (fs : List Filter) → Each (λ (f : Filter). t f.name ≡ q f) fs
    → last_of t None (map kept_of (oldest_first fs)) ≡ option_map (λ (f : Filter). f.name) (find q fs)
last_is_newest t q [] alike = refl
last_is_newest t q (f ∷ fs) alike =
    ap (last_of t None) (map-append kept_of (oldest_first fs) (f ∷ []))
    ∙ last_more t None (map kept_of (oldest_first fs)) (kept_of f)
    ∙ ap (λ (b : Bool). cond b (Some f.name) (last_of t None (map kept_of (oldest_first fs)))) alike.0
    ∙ by (q f) (last_is_newest t q fs alike.1)
  where
    by : (b : Bool) → last_of t None (map kept_of (oldest_first fs)) ≡ option_map (λ (f : Filter). f.name) (find q fs)
        → cond b (Some f.name) (last_of t None (map kept_of (oldest_first fs))) ≡ option_map (λ (f : Filter). f.name) (cond b (Some f) (find q fs))
    by true rest = refl
    by false rest = rest

-- ---- the last name that is not switched off

-- the filter of that name passes, and it is not switched off
abbrev pub stops_by : (Bytes → Bool) → List Bytes → Bytes → Bool
stops_by passes off name = passes name && not (is_in name off)

else_none : (o u : Option Bytes) → else_that (else_that o None) u ≡ else_that o u
else_none None u = refl
else_none (Some name) u = refl

else_some : (o u : Option Bytes) (name : Bytes) → else_that (else_that o (Some name)) u ≡ else_that o (Some name)
else_some None u name = refl
else_some (Some other) u name = refl

pub last_stops : (passes : Bytes → Bool) (off : List Bytes) (o : Option Bytes) (ks : List KeptFilter)
    → else_that (last_beside (names_of passes ks) off) o ≡ last_of (stops_by passes off) o ks
last_stops passes off o [] = refl
last_stops passes off o (k ∷ ks) = by (passes k.name) (λ (u : Option Bytes). last_stops passes off u ks)
  where
    here : (i : Bool) → ((u : Option Bytes) → else_that (last_beside (names_of passes ks) off) u ≡ last_of (stops_by passes off) u ks)
        → else_that (else_that (last_beside (names_of passes ks) off) (cond i None (Some k.name))) o ≡ last_of (stops_by passes off) (cond (not i) (Some k.name) o) ks
    here true later = else_none (last_beside (names_of passes ks) off) o ∙ later o
    here false later = else_some (last_beside (names_of passes ks) off) o k.name ∙ later (Some k.name)

    by : (p : Bool) → ((u : Option Bytes) → else_that (last_beside (names_of passes ks) off) u ≡ last_of (stops_by passes off) u ks)
        → else_that (last_beside (cond p (k.name ∷ names_of passes ks) (names_of passes ks)) off) o
        ≡ last_of (stops_by passes off) (cond (p && not (is_in k.name off)) (Some k.name) o) ks
    by true later = here (is_in k.name off) later
    by false later = later o

-- ---- a filter blocks where its name does

none_block : (fs : List Filter) (name : Bytes) → has_filter name fs ≡ false → is_block fs name ≡ false
none_block [] name none = refl
none_block (f ∷ fs) name none = by (same f.name name) none (λ later. none_block fs name later)
  where
    by : (b : Bool) → (b || has_filter name fs) ≡ false → (has_filter name fs ≡ false → is_block fs name ≡ false) → ((b && f.blocks) || is_block fs name) ≡ false
    by true is later = absurd (false≢true (sym is))
    by false is later = later is

there : (newer fs : List Filter) (f : Filter) → has_filter f.name (newer ++ f ∷ fs) ≡ true
there [] fs f = ap (λ (b : Bool). b || has_filter f.name fs) (same_self f.name)
there (g ∷ newer) fs f = later (same g.name f.name) (there newer fs f)
  where
    later : (a : Bool) → has_filter f.name (newer ++ f ∷ fs) ≡ true → (a || has_filter f.name (newer ++ f ∷ fs)) ≡ true
    later true is = refl
    later false is = is

block_of : (newer fs : List Filter) (f : Filter) → AreApart (newer ++ f ∷ fs) → is_block (newer ++ f ∷ fs) f.name ≡ f.blocks
block_of [] fs f apart =
    ap (λ (b : Bool). (b && f.blocks) || is_block fs f.name) (same_self f.name)
    ∙ ap (λ (b : Bool). f.blocks || b) (none_block fs f.name apart.0)
    ∙ or_false f.blocks
  where
    or_false : (b : Bool) → (b || false) ≡ b
    or_false true = refl
    or_false false = refl
block_of (g ∷ newer) fs f apart = by (same g.name f.name) refl (block_of newer fs f apart.1)
  where
    by : (b : Bool) → same g.name f.name ≡ b → is_block (newer ++ f ∷ fs) f.name ≡ f.blocks → ((b && g.blocks) || is_block (newer ++ f ∷ fs) f.name) ≡ f.blocks
    by true is rest =
        let one : g.name ≡ f.name = same_is g.name f.name is in
        absurd (false≢true (sym apart.0 ∙ ap (λ (name : Bytes). has_filter name (newer ++ f ∷ fs)) one ∙ there newer fs f))
    by false is rest = rest

-- ---- by the table

turned : (a b c : Bool) → ((a && b) && c) ≡ (b && c && a)
turned true true true = refl
turned true true false = refl
turned true false c = refl
turned false true true = refl
turned false true false = refl
turned false false c = refl

module _ (t : Filters) (h : History) (story : Story) (v : Verdicts) (off : List Bytes) (keeps : KeepsFacts t h) (are : AreVerdicts v t (condition h) (filters h) story) where
  matching : (name : Bytes) → verdict_at t.filter_places v.filters.items name ≡ matches h name story
  matching name = rw (keeps.ages name, are.filters) (at_age (truth (condition h) story) (filters h) name)

  stops_here : (newer fs : List Filter) (f : Filter) → filters h ≡ newer ++ f ∷ fs → stops_by (blocks_by t v.filters.items) off f.name ≡ stops h story off f
  stops_here newer fs f split =
      let blocks : is_in f.name t.blocks.items ≡ f.blocks =
      keeps.blocking.each f.name
      ∙ ap (λ (gs : List Filter). is_block gs f.name) split
      ∙ block_of newer fs f (rw split at keeps.apart) in
      ap (λ (b : Bool). (b && is_in f.name t.blocks.items) && not (is_in f.name off)) (matching f.name)
      ∙ ap (λ (b : Bool). (matches h f.name story && b) && not (is_in f.name off)) blocks
      ∙ turned (matches h f.name story) f.blocks (not (is_in f.name off))

  each_stops : (newer fs : List Filter) → filters h ≡ newer ++ fs → Each (λ (f : Filter). stops_by (blocks_by t v.filters.items) off f.name ≡ stops h story off f) fs
  each_stops newer [] split = tt
  each_stops newer (f ∷ fs) split = (stops_here newer fs f split, each_stops (newer ++ f ∷ []) fs (split ∙ sym (append_assoc newer (f ∷ []) fs)))

  last_is_block : last_of (stops_by (blocks_by t v.filters.items) off) None t.filters.items ≡ block h story off
  last_is_block =
      ap (last_of (stops_by (blocks_by t v.filters.items) off) None) keeps.filters
      ∙ last_is_newest (stops_by (blocks_by t v.filters.items) off) (stops h story off) (filters h) (each_stops [] (filters h) refl)

  pub last_blocks : last_beside v.blocks.items off ≡ block h story off
  last_blocks =
      ap (λ (names : List Bytes). last_beside names off) are.blocks
      ∙ else_nothing (last_beside (names_of (blocks_by t v.filters.items) t.filters.items) off)
      ∙ last_stops (blocks_by t v.filters.items) off None t.filters.items
      ∙ last_is_block
    where
      else_nothing : (o : Option Bytes) → o ≡ else_that o None
      else_nothing None = refl
      else_nothing (Some name) = refl
