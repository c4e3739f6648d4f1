-- What a run of the program does to an input and to outputs whose bytes are known.
use Rattle.std.specs.Prelude.{◌≤◌, ℕ, ◌⊎◌, List, ◌++◌, length, codes, Option}
use Rattle.std.specs.Io.KnownBytes.{Appends, Consumes as ReadsKnown, IsAtEnd}
use Rattle.multihash.specs.Writing.{AppendsPrefix}
use Rattle.mh_show.specs.declared.run.RunError.{RunError}
use Rattle.mh_show.specs.declared.run.RunError.TheVariants.{Input, NotShown, Output}
use Rattle.mh_show.specs.declared.show.ShowError.TheVariants.{NotHex, Refused, Memory}
use Rattle.mh_show.specs.Shown.{newline, ShowsAs, NamesNone, IsRejectedAs}
use Rattle.mh_show.specs.ShowError.{show_error_text}

-- the text of an error
abbrev pub run_error_text : RunError → List ℕ
run_error_text Input = codes "input not read"
run_error_text (NotShown e) = show_error_text e
run_error_text Output = codes "output not written"

-- the line that reports an error
abbrev pub error_line : List ℕ → List ℕ
error_line text = codes "mh_show: " ++ text ++ newline

-- the greatest number of bytes of an input; the program reads one more to reject a longer one
abbrev pub most_input : ℕ
most_input = 65536

-- the text is the whole input
pub record ReadsWhole (old new : Option (List ℕ)) (text : List ℕ) : Type 0 where
  pub consumes : ReadsKnown old new text
  pub at_end : IsAtEnd new
  pub short : length text ≤ most_input

-- a strict prefix of the bytes was appended
abbrev pub AppendsPrefixOf : Option (List ℕ) → Option (List ℕ) → List ℕ → Type 0
AppendsPrefixOf old new bytes =
    AppendsPrefix (λ before part after. Appends before after part) old bytes new

-- a prefix of the bytes was appended
abbrev pub TriesToAppend : Option (List ℕ) → Option (List ℕ) → List ℕ → Type 0
TriesToAppend old new bytes = Appends old new bytes ⊎ AppendsPrefixOf old new bytes

-- the whole input was read, and the lines that show it were written
abbrev pub ShowsInput : (old_input new_input old_out new_out : Option (List ℕ)) → Type 0
ShowsInput old_input new_input old_out new_out =
    (text : List ℕ) × (lines : List ℕ) × ReadsWhole old_input new_input text × ShowsAs text lines
    × Appends old_out new_out lines

-- the same, but only a strict prefix of the lines was written
abbrev pub ShowsPart : (old_input new_input old_out new_out : Option (List ℕ)) → Type 0
ShowsPart old_input new_input old_out new_out =
    (text : List ℕ) × (lines : List ℕ) × ReadsWhole old_input new_input text × ShowsAs text lines
    × AppendsPrefixOf old_out new_out lines

-- what happened if that error ended the run; `kept` says that the output is unchanged
abbrev pub EndsRun : (kept : Type 0) (old_input new_input old_out new_out : Option (List ℕ))
    → RunError → Type 0
EndsRun kept old_input new_input old_out new_out Input = kept
EndsRun kept old_input new_input old_out new_out (NotShown NotHex) =
    kept × (text : List ℕ) × ReadsWhole old_input new_input text × NamesNone text
EndsRun kept old_input new_input old_out new_out (NotShown (Refused e)) =
    kept × (text : List ℕ) × ReadsWhole old_input new_input text × IsRejectedAs text e
EndsRun kept old_input new_input old_out new_out (NotShown Memory) = kept
EndsRun kept old_input new_input old_out new_out Output =
    ShowsPart old_input new_input old_out new_out

-- the line of that error was written, or that of out of memory, or a prefix of one
abbrev pub ReportsError : Option (List ℕ) → Option (List ℕ) → RunError → Type 0
ReportsError old new e =
    TriesToAppend old new (error_line (run_error_text e))
    ⊎ TriesToAppend old new (error_line (codes "out of memory"))
