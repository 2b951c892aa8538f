-- What a receiver stands for, once a frame was kept or failed to be, and once it is opened.
use Rattle.std.proofs.Common.{◌≡◌, ◌⊎◌, ℕ, inl, inr, ◌+◌, List, [], ◌∷◌, ◌++◌, length, map, refl, sym, ap, subst, ◌∙◌, arith, length-append, append-nil, Err}
use Rattle.std.proofs.lemmas.List.{map-append, length-map}
use Rattle.news_types.specs.Names.{Bytes}
use Rattle.news_types.specs.Frames.{Frame}
use Rattle.news_io.specs.declared.record.Record.{Record}
use Rattle.news_io.specs.declared.keeper.AppendFault.{AppendFault}
use Rattle.news_io.specs.declared.keeper.AppendFault.TheVariants.{Fault, Full}
use Rattle.news_io.specs.Keeper.{DoubtsAfter, KeeperMeaning}
use Rattle.feed_receiver.specs.declared.receiver.Receiver.{Receiver}
use Rattle.feed_receiver.specs.Spelling.{frame_bytes}
use Rattle.feed_receiver.specs.Feed.{IsNumber, AreNumber, payloads, AreFrames}
use Rattle.feed_receiver.specs.Holds.{Received, onto, Keeps, Holds, OpensTo}
use Rattle.feed_receiver.proofs.Numbered.{order_more, as_many}

module _ {K : Type 0} (keeper : KeeperMeaning K) where
  module _ (r next : Receiver K) (b : Received) (h : Holds keeper r b) (bytes : Bytes) (same_name : next.name ≡ r.name) (told : keeper.tells r.keeper → keeper.tells next.keeper) where
    -- the next frame was kept
    pub holds_more : (n : AreNumber r.name next.count bytes) → next.count ≡ r.count + 1 → (keeper.tells r.keeper → keeper.list next.keeper ≡ keeper.list r.keeper ++ bytes ∷ []) → (keeper.tells r.keeper → (x : Bytes) → keeper.doubts next.keeper x → ⊥) →
        Holds keeper next (onto (n.frame ∷ []) b)
    holds_more n count grown sure =
        let at : next.count ≡ 1 + length b.frames = omega (arith, h.count) in
        let mine : IsNumber b.name (1 + length b.frames) n.frame = subst (λ (name : Bytes). IsNumber name (1 + length b.frames) n.frame) h.name (subst (λ k. IsNumber r.name k n.frame) at n.numbered) in
        record {
          name = same_name ∙ h.name;
          count = omega (arith, at, length-append b.frames (n.frame ∷ []));
          order = order_more b.name 1 b.frames n.frame h.order mine;
          kept = λ t. let k = h.kept t in record {
            told = told k.told;
            is = grown k.told ∙ ap (λ (l : List Bytes). l ++ bytes ∷ []) k.is ∙ ap (λ (x : Bytes). map frame_bytes b.frames ++ x ∷ []) n.is ∙ sym (map-append frame_bytes b.frames (n.frame ∷ []));
            next = λ x d. absurd (sure k.told x d);
          };
        }

    -- nothing was kept, and the next frame is in doubt
    pub holds_same : AreNumber r.name (r.count + 1) bytes → next.count ≡ r.count → (keeper.tells r.keeper → keeper.list next.keeper ≡ keeper.list r.keeper) → (keeper.tells r.keeper → (x : Bytes) → keeper.doubts next.keeper x → keeper.doubts r.keeper x ⊎ (x ≡ bytes)) →
        Holds keeper next (onto [] b)
    holds_same n count same doubt =
        let at : r.count + 1 ≡ length (map frame_bytes b.frames) + 1 = omega (arith, h.count, length-map b.frames frame_bytes) in
        let mine : AreNumber b.name (length (map frame_bytes b.frames) + 1) bytes = subst (λ (name : Bytes). AreNumber name (length (map frame_bytes b.frames) + 1) bytes) h.name (subst (λ k. AreNumber r.name k bytes) at n) in
        subst (λ (frames : List Frame). Holds keeper next (record { name = b.name; told = b.told; frames = frames })) (sym (append-nil b.frames))
        (record {
          name = same_name ∙ h.name;
          count = count ∙ h.count;
          order = h.order;
          kept = λ t. let k = h.kept t in record {
            told = told k.told;
            is = same k.told ∙ k.is;
            next = λ x d. elim (doubt k.told x d) [
              | inl before ↦ k.next x before
              | inr is ↦ subst (AreNumber b.name (length (map frame_bytes b.frames) + 1)) (sym is) mine
            ];
          };
        })

  -- what a receiver of this name is opened to
  pub opens : (k : K) (records : List Record) (r : Receiver K) → AreFrames r.name records → r.keeper ≡ k → r.count ≡ length records → OpensTo keeper k r.name records r
  opens k records r a same count = record {
    same = same;
    frames = a.frames;
    are = a.are;
    holds = λ told premise. record {
      name = refl;
      count = count ∙ as_many r.name records a;
      order = a.order;
      kept = λ t. subst (λ (l : List Bytes). Keeps keeper r.keeper r.name l) a.are (subst (λ (x : K). Keeps keeper x r.name (payloads records)) (sym same) (premise t));
    };
  }

-- a fault leaves in doubt what was, and the frame
pub fault_doubts : (old new : Bytes → Type 0) (bytes payload : Bytes) (why : AppendFault) → why ≡ Fault → payload ≡ bytes → DoubtsAfter old new payload (Err why) → (x : Bytes) → new x → old x ⊎ (x ≡ bytes)
fault_doubts old new bytes payload why is same d x n =
    let after : (x : Bytes) → new x → old x ⊎ (x ≡ payload) = subst (λ (f : AppendFault). DoubtsAfter old new payload (Err f)) is d in
    subst (λ (p : Bytes). old x ⊎ (x ≡ p)) same (after x n)

-- what is full leaves in doubt what was
pub full_doubts : (old new : Bytes → Type 0) (bytes payload : Bytes) (why : AppendFault) (size count : ℕ) → why ≡ Full size count → DoubtsAfter old new payload (Err why) → (x : Bytes) → new x → old x ⊎ (x ≡ bytes)
full_doubts old new bytes payload why size count is d x n =
    let after : (x : Bytes) → new x → old x = subst (λ (f : AppendFault). DoubtsAfter old new payload (Err f)) is d in
    inl (after x n)
