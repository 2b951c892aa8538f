-- The whole input is one item.
use Rattle.std.proofs.Common.{◌≡◌, ⊎_elim, ℕ, ◌+◌, ◌<◌, ◌≤◌, Bool, cond, List, [], ◌∷◌, ◌++◌, length, take, Result, Ok, Err, refl, sym, ◌∙◌, ap, subst, arith}
use Rattle.std.proofs.lemmas.Bool.{cases_lt, lt-ltb}
use Rattle.std.proofs.lemmas.List.{append-nil, take_all, length-take, length-append}
use Rattle.news_io.specs.Source.{SourceMeaning}
use Rattle.news_types.specs.declared.story.Incoming.{Incoming}
use Rattle.input_lines.proofs.Pieces.{take_again}
use Rattle.line_run.proofs.Inputs.{was_read_more}
use Rattle.ninjs_text.specs.declared.fault.NinjsFault.{NinjsFault}
use Rattle.ninjs_text.specs.declared.fault.NinjsFault.TheVariants.{NotJson}
use Rattle.ninjs_text.specs.Reading.{json_of}
use Rattle.ninjs_text.specs.Item.{ninjs, if_json}
use Rattle.wire_run.specs.Reading.{ENOUGH, Part, PartSoFar}

-- ---- what is kept says what item it is

too_long : (bytes : List ℕ) → 4194304 < length bytes → ninjs bytes ≡ Err NotJson
too_long bytes lt = ap (λ (t : Bool). if_long t (if_json (json_of bytes))) (lt-ltb 4194304 (length bytes) lt)
  where
    if_long : Bool → Result Incoming NinjsFault → Result Incoming NinjsFault
    if_long t read = cond t (Err NotJson) read

pub kept_item : (bytes : List ℕ) → ninjs (take ENOUGH bytes) ≡ ninjs bytes
kept_item bytes = ⊎_elim
    (λ (lt : 4194304 < length bytes). too_long (take ENOUGH bytes) (omega (arith, lt, length-take ENOUGH bytes)) ∙ sym (too_long bytes lt))
    (λ (le : length bytes ≤ 4194304). ap ninjs (take_all ENOUGH bytes (omega (arith, le))))
    (cases_lt 4194304 (length bytes))

-- ---- the input is read through

module _ {S : Type 0} (source : SourceMeaning S) (most : ℕ) where
  pub part_starts : (i : S) (kept : List ℕ) → kept ≡ [] → PartSoFar source most i i kept most
  part_starts i kept none = record {
    read = [];
    was_read = record { told = λ t. t; input = λ t. refl; rest = λ t. refl };
    count = omega arith;
    kept_is = none ∙ sym (take_all ENOUGH [] (omega arith));
  }

  pub part_next : (i i' i'' : S) (kept kept' some : List ℕ) (left left' : ℕ) → PartSoFar source most i i' kept left → (source.tells i' → source.tells i'') → (source.tells i' → source.ahead i' ≡ some ++ source.ahead i'')
      → length some + left' ≡ left → kept' ≡ take ENOUGH (kept ++ some) → PartSoFar source most i i'' kept' left'
  part_next i i' i'' kept kept' some left left' p told bytes sum is = record {
    read = p.read ++ some;
    was_read = was_read_more source i i' i'' p.read some p.was_read told bytes;
    count = omega (arith, p.count, sum, length-append p.read some);
    kept_is = is ∙ ap (λ (l : List ℕ). take ENOUGH (l ++ some)) p.kept_is ∙ take_again ENOUGH p.read some;
  }

  -- a part of the input, of which these bytes came last
  pub part_of : (i i' i'' : S) (kept some : List ℕ) (left : ℕ) → PartSoFar source most i i' kept left → (source.tells i' → source.tells i'') → (source.tells i' → source.ahead i' ≡ some ++ source.ahead i'') → length some ≤ left + 1
      → Part source most i i''
  part_of i i' i'' kept some left p told bytes few = record {
    read = p.read ++ some;
    more = source.ahead i'';
    was_read = was_read_more source i i' i'' p.read some p.was_read told bytes;
    few = omega (arith, p.count, few, length-append p.read some);
  }

  -- and they are one too many
  pub part_over : (i i' i'' : S) (kept some : List ℕ) (left : ℕ) → PartSoFar source most i i' kept left → (source.tells i' → source.tells i'') → (source.tells i' → source.ahead i' ≡ some ++ source.ahead i'') → length some ≡ left + 1
      → (part : Part source most i i'') × (most < length part.read)
  part_over i i' i'' kept some left p told bytes over = (
    record {
      read = p.read ++ some;
      more = source.ahead i'';
      was_read = was_read_more source i i' i'' p.read some p.was_read told bytes;
      few = omega (arith, p.count, over, length-append p.read some);
    },
    omega (arith, p.count, over, length-append p.read some),
  )

  -- nothing more came
  pub part_same : (i i' i'' : S) (kept : List ℕ) (left : ℕ) → PartSoFar source most i i' kept left → (source.tells i' → source.tells i'') → (source.tells i' → source.ahead i'' ≡ source.ahead i')
      → (part : Part source most i i'') × (length part.read ≤ most)
  part_same i i' i'' kept left p told same = (
    record {
      read = p.read;
      more = source.ahead i';
      was_read = record { told = λ t. told (p.was_read.told t); input = p.was_read.input; rest = λ t. same (p.was_read.told t) };
      few = omega (arith, p.count);
    },
    omega (arith, p.count),
  )

  pub part_ends : (i i' i'' : S) (kept : List ℕ) (left : ℕ) → PartSoFar source most i i' kept left → (source.tells i' → source.tells i'') → (source.tells i' → source.ahead i' ≡ []) → (source.tells i' → source.ahead i'' ≡ [])
      → (part : Part source most i i'') × (part.more ≡ []) × (length part.read ≤ most) × (kept ≡ take ENOUGH part.read)
  part_ends i i' i'' kept left p told none none' = (
    record {
      read = p.read;
      more = [];
      was_read = record { told = λ t. told (p.was_read.told t); input = λ t. p.was_read.input t ∙ ap (λ (l : List ℕ). p.read ++ l) (none (p.was_read.told t)); rest = λ t. none' (p.was_read.told t) };
      few = omega (arith, p.count);
    },
    refl,
    omega (arith, p.count),
    p.kept_is,
  )
