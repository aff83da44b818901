-- What a whole call has read and written.
use Rattle.std.specs.Prelude.{◌≡◌, ◌++◌, ℕ, List, Option, Result, Ok, Err, string_bytes}
use Rattle.std.specs.Io.KnownBytes.{Appends}
use Rattle.replay.specs.declared.stream.ReplayFault.{ReplayFault}
use Rattle.replay.specs.declared.stream.ReplayFault.TheVariants.{WriteFailed}
use Rattle.replay.specs.Known.{AppendsPart}
use Rattle.run_picture.specs.declared.picture.Asked.{Asked}
use Rattle.run_picture.specs.declared.picture.Form.{Form}
use Rattle.run_picture.specs.declared.picture.Form.TheVariants.{Picture, Page}
use Rattle.run_picture.specs.Told.{Shown}
use Rattle.run_picture.specs.Reading.{Marked}
use Rattle.run_picture.specs.Drawn.{IsPicture}

-- The page contains the picture, with some text before and after it.
pub record HoldsPicture (picture page : List ℕ) : Type 0 where
  pub head : List ℕ
  pub tail : List ℕ
  pub whole : page ≡ head ++ picture ++ tail

-- A page of a picture with these marks.
pub record IsPage (shown : List Shown) (page : List ℕ) : Type 0 where
  pub picture : List ℕ
  pub is : IsPicture shown picture
  pub held : HoldsPicture picture page

abbrev pub IsForm : Form → List Shown → List ℕ → Type 0
IsForm Picture shown text = IsPicture shown text
IsForm Page shown text = IsPage shown text

-- The input was read to its end, and the requested part was written in the requested form, with a mark for each line of the part.
pub record DrewAll (asked : Asked) (left left' got got' : Option (List ℕ)) : Type 0 where
  pub shown : List Shown
  pub text : List ℕ
  pub marked : Marked left left' asked.part shown
  pub picture : IsForm asked.form shown text
  pub written : Appends got got' text

-- The input was read to its end, and a prefix of that text was written.
pub record DrewSome (asked : Asked) (left left' got got' : Option (List ℕ)) : Type 0 where
  pub shown : List Shown
  pub text : List ℕ
  pub marked : Marked left left' asked.part shown
  pub picture : IsForm asked.form shown text
  pub written : AppendsPart got got' text

-- What was written, by the call's result: all of the text, a prefix, or nothing.
abbrev pub Drew : {A : Type 0} → Asked → Result A ReplayFault → Option (List ℕ) → Option (List ℕ) → Option (List ℕ) → Option (List ℕ) → Type 0
Drew asked (Ok x) left left' got got' = DrewAll asked left left' got got'
Drew asked (Err WriteFailed) left left' got got' = DrewSome asked left left' got got'
Drew asked (Err fault) left left' got got' = got' ≡ got
