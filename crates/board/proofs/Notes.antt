-- The keeper's notes over its steps.
use Rattle.std.proofs.Common.{◌≡◌, ◌≤◌, ℕ, zero, suc, ◌+◌, ◌-◌, ◌*◌, ◌%◌, ◌^◌, ◌<◌, ⊎_elim, true, ◌||◌, ◌&&◌, eqb, List, [], ◌∷◌, length, get_or, set, sym, refl, ap, ◌∙◌, subst, arith, replicate, length-set, get_or-set_same, get_or-set_other, eq-eqb, ne_eqb}
use Rattle.std.proofs.lemmas.List.{get_or-replicate, length-replicate}
use Rattle.std.proofs.lemmas.Bool.{cases_lt}
use Rattle.std.proofs.lemmas.Nat.Bits.{bit_at-zero, bit_at_set_same, bit_at_set_other, bit_at-trailing_ones, bit_at_ones}
use Rattle.std.specs.Int.{bit_at, trailing_ones, w64}
use Rattle.std.specs.Int.Count.{trailing_of_zero}
use Rattle.std.specs.Int.Bits.{bit_or}
use mathlib.Core.Logic.{dite}
use native.Mathlib.Decide.{ℕ_discrete}
use Rattle.frames.specs.declared.board_rule.SlotView.{SlotView}
use Rattle.frames.specs.declared.board_rule.KeeperView.{KeeperView}
use Rattle.frames.specs.BoardStep.{is_past}
use Rattle.frames.specs.BoardViews.{slot_of, has_place, empty_slot, slot_with_look, keeper_view}
use Rattle.board.specs.declared.note.Note.{Note}
use Rattle.board.specs.Notes.{note_at, blank, Agrees, AreNoted, IsNotedAfter}
use Rattle.board.proofs.Views.{with_place_has}

-- a word of ones alone has 64 at its end
all_ones : (n : ℕ) → n < 2 ^ 64 → 2 ^ 64 ≤ n + 1 → (n ≡ 2 ^ 64 - 1) × (trailing_ones w64 n ≡ 64)
all_ones n fits full = let all : n ≡ 2 ^ 64 - 1 = omega arith in (all, ap (trailing_ones w64) all ∙ trailing_of_zero 64)

-- the ones at the end of a word are ones
pub ones_are : (n i : ℕ) → n < 2 ^ 64 → i < trailing_ones w64 n → bit_at n i ≡ 1
ones_are n i fits before = ⊎_elim
    (λ less. (bit_at-trailing_ones w64 n less).2 i before)
    (λ full. let all = all_ones n fits full in ap (λ m. bit_at m i) all.0 ∙ bit_at_ones 64 i (subst (λ m. i < m) all.1 before))
    (cases_lt (n + 1) (2 ^ 64))

-- and where they don't fill it, a zero stands before them
pub zero_stands : (n : ℕ) → n < 2 ^ 64 → trailing_ones w64 n < 64 → bit_at n (trailing_ones w64 n) ≡ 0
zero_stands n fits short = ⊎_elim
    (λ less. (bit_at-trailing_ones w64 n less).1)
    (λ full. absurd (let all = all_ones n fits full in omega (arith, all.1)))
    (cases_lt (n + 1) (2 ^ 64))

-- a note is written for the slot that changes
pub noted_set : (slots : ℕ) (notes : List Note) (k k' : KeeperView) (i : ℕ) (note : Note) (s : SlotView) → k'.slots ≡ set k.slots i s → AreNoted slots notes k → i < slots → Agrees note s → AreNoted slots (set notes i note) k'
noted_set slots notes k k' i note s is a low new = record {
  notes_are = length-set notes i note ∙ a.notes_are;
  slots_are = ap length is ∙ (length-set k.slots i s ∙ a.slots_are);
  each = λ j h. let n = a.notes_are in let m = a.slots_are in subst (λ l. Agrees (get_or (set notes i note) j blank) (get_or l j empty_slot)) (sym is)
      (dite (ℕ_discrete j i)
      (λ e. rw (e, get_or-set_same notes i note blank (omega arith), get_or-set_same k.slots i s empty_slot (omega arith)) new)
      (λ ne. rw (get_or-set_other notes i j note blank ne, get_or-set_other k.slots i j s empty_slot ne) (a.each j h)));
}

-- what the notes say of the slot stays
pub noted_same : (slots : ℕ) (notes : List Note) (k k' : KeeperView) (i : ℕ) (s : SlotView) → k'.slots ≡ set k.slots i s → AreNoted slots notes k → i < slots
    → s.left ≡ (slot_of k i).left → s.looked ≡ (slot_of k i).looked → s.serial ≡ (slot_of k i).serial → AreNoted slots notes k'
noted_same slots notes k k' i s is a low left looked serial = record {
  notes_are = a.notes_are;
  slots_are = ap length is ∙ (length-set k.slots i s ∙ a.slots_are);
  each = λ j h. let m = a.slots_are in subst (λ l. Agrees (get_or notes j blank) (get_or l j empty_slot)) (sym is)
      (dite (ℕ_discrete j i)
      (λ e. let b = a.each i low in rw (e, get_or-set_same k.slots i s empty_slot (omega arith)) record { left = b.left ∙ sym left; looked = λ p q. b.looked p q ∙ ap (λ l. has_place l p) (sym looked); small = subst (λ n. n < 2 ^ 40) (sym serial) b.small })
      (λ ne. rw (get_or-set_other k.slots i j s empty_slot ne) (a.each j h)));
}

pub agrees_new : (left : ℕ) (s : SlotView) → left ≡ s.left → s.looked ≡ [] → s.serial < 2 ^ 40 → Agrees (note_at left) s
agrees_new left s is clean small = record { left = is; looked = λ p h. ap (λ b. eqb b 1) (bit_at-zero p) ∙ ap (λ l. has_place l p) (sym clean); small = small }

-- a place's bit is set
pub bit_noted : (note : Note) (p q found : ℕ) → p < 64 → is_past note.left found ≡ true
    → eqb (bit_at (bit_or note.looked (1 * 2 ^ p % 2 ^ 64)) q) 1 ≡ ((eqb q p && is_past note.left found) || eqb (bit_at note.looked q) 1)
bit_noted note p q found low past = rw past (dite (ℕ_discrete q p)
    (λ e. ap (λ b. eqb b 1) (ap (bit_at (bit_or note.looked (1 * 2 ^ p % 2 ^ 64))) e ∙ bit_at_set_same w64 note.looked p low) ∙ sym (ap (λ b. (b && true) || eqb (bit_at note.looked q) 1) (eq-eqb q p e)))
    (λ ne. ap (λ b. eqb b 1) (bit_at_set_other w64 note.looked p low q ne) ∙ sym (ap (λ b. (b && true) || eqb (bit_at note.looked q) 1) (ne_eqb q p ne))))

-- a place is looked at
pub agrees_look : (old new : Note) (s : SlotView) (p found : ℕ) → IsNotedAfter old new p found → Agrees old s → Agrees new (slot_with_look s p found)
agrees_look old new s p found after a = record {
  left = after.0 ∙ a.left;
  looked = λ q h. after.1 q h ∙ ((λ i. (eqb q p && is_past (a.left i) found) || a.looked q h i) ∙ sym (with_place_has (is_past s.left found) p q s.looked));
  small = a.small;
}

pub noted_first : (slots split : ℕ) (notes : List Note) → notes ≡ replicate slots blank → AreNoted slots notes (keeper_view slots split)
noted_first slots split notes is = rw is record {
  notes_are = length-replicate {A = Note} slots blank;
  slots_are = length-replicate {A = SlotView} slots empty_slot;
  each = λ j h. rw (get_or-replicate {A = Note} slots j blank blank h, get_or-replicate {A = SlotView} slots j empty_slot empty_slot h) (agrees_new 0 empty_slot refl refl (omega arith));
}

pub any_default : {A : Type 0} (l : List A) (i : ℕ) (a b : A) → i < length l → get_or l i a ≡ get_or l i b
any_default [] i a b h = absurd (omega arith)
any_default (x ∷ xs) zero a b h = refl
any_default (x ∷ xs) (suc i) a b h = any_default xs i a b (omega arith)
