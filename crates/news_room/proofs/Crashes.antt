-- What a crash leaves of a keeper's records, read as lists.
use Rattle.std.proofs.Common.{◌≡◌, ◌⊎◌, inl, inr, ℕ, List, [], ◌∷◌, ◌++◌, refl, ap, ◌∙◌, subst, Option, Some}
use Rattle.news_types.specs.declared.entry.Entry.{Entry}
use Rattle.news_types.specs.Names.{Bytes}
use Rattle.news_types.specs.Doubt.{payloads}
use Rattle.news_types.specs.History.{History}
use Rattle.news_io.specs.Keeper.{Leaves, BeforeOrAfter}
use Rattle.news_io.specs.Moments.{Elapses}
use Rattle.news_io.specs.Left.{IsLeft, Between}
use Rattle.news_io.proofs.Runs.{elapses_weaker}
use Rattle.entry_codec.specs.Spelling.{entry_bytes}
use Rattle.entry_codec.specs.Formed.{IsEntry}
use Rattle.news_room.specs.Log.{IsStored, Opens}
use Rattle.news_room.specs.Stands.{MayFollow}

-- records that a crash may leave are those of the list, or of the list with an entry in doubt
pub read_left : (h : History) (D : Bytes → Type 0) → IsStored h → ((payload : Bytes) → D payload → MayFollow h payload) → (opened : Option (List Bytes)) → Leaves (payloads entry_bytes h) D opened → IsLeft Opens h (λ e. IsEntry e × D (entry_bytes e)) opened
read_left h D kept follow opened left =
    elim left [
      | inl same ↦ inl (same, kept)
      | inr more ↦
          let next = follow more.0 more.1 in
          inr (next.0, (next.2.formed.0, subst D next.1 more.1), (more.2 ∙ ap (λ (x : Bytes). Some (payloads entry_bytes h ++ x ∷ [])) next.1, next.2))
    ]

-- a list that is left is one of those between
left_between : (h part g : History) (P D D' : Entry → Type 0) (before after : List Entry) (opened : Option (List Bytes)) → part ≡ before ++ h → g ≡ after ++ part → ((e : Entry) → P e → ((part ≡ h) × D e) ⊎ ((part ≡ g) × D' e)) → IsLeft Opens part P opened
    → Between Opens h g D D' opened
left_between h part g P D D' before after opened is more weaker left = record {
  part = part;
  behind = (before, is);
  within = (after, more);
  left = elim left [ inl same ↦ inl same | inr some ↦ inr (some.0, weaker some.0 some.1, some.2) ];
}

-- an append, whatever it answered: the list goes on by what it added
pub append_leaves : (h : History) (added : List Entry) (m m' : ℕ) (left left' : ℕ → Option (List Bytes) → Type 0) (D D' : Bytes → Type 0) → IsStored h → IsStored (added ++ h)
    → ((payload : Bytes) → D payload → MayFollow h payload) → ((payload : Bytes) → D' payload → MayFollow (added ++ h) payload)
    → Elapses m m' left left' (BeforeOrAfter (payloads entry_bytes h) D (payloads entry_bytes (added ++ h)) D')
    → Elapses m m' left left' (Between Opens h (added ++ h) (λ e. IsEntry e × D (entry_bytes e)) (λ e. IsEntry e × D' (entry_bytes e)))
append_leaves h added m m' left left' D D' kept kept' follow follow' time =
    elapses_weaker m m' left left' (BeforeOrAfter (payloads entry_bytes h) D (payloads entry_bytes (added ++ h)) D') (Between Opens h (added ++ h) (λ e. IsEntry e × D (entry_bytes e)) (λ e. IsEntry e × D' (entry_bytes e))) time
    (λ opened either. elim either [
      | inl before ↦ left_between h h (added ++ h) (λ e. IsEntry e × D (entry_bytes e)) (λ e. IsEntry e × D (entry_bytes e)) (λ e. IsEntry e × D' (entry_bytes e)) [] added opened refl refl (λ e p. inl (refl, p)) (read_left h D kept follow opened before)
      | inr after ↦ left_between h (added ++ h) (added ++ h) (λ e. IsEntry e × D' (entry_bytes e)) (λ e. IsEntry e × D (entry_bytes e)) (λ e. IsEntry e × D' (entry_bytes e)) added [] opened refl refl (λ e p. inr (refl, p)) (read_left (added ++ h) D' kept' follow' opened after)
    ])
