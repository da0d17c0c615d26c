-- What each kind of fault of the ini form is called.
use Rattle.std.specs.Prelude.{ℕ, List, codes}
use Rattle.med_ini.specs.declared.errors.IniKind.{IniKind}
use Rattle.med_ini.specs.declared.errors.IniKind.TheVariants.{NotUtf8, NoSection, NoDelimiter, DuplicateSection, DuplicateOption, EmptyKey}

abbrev pub kind_text : IniKind → List ℕ
kind_text NotUtf8 = codes "not utf-8"
kind_text NoSection = codes "no section"
kind_text NoDelimiter = codes "no delimiter"
kind_text DuplicateSection = codes "duplicate section"
kind_text DuplicateOption = codes "duplicate option"
kind_text EmptyKey = codes "empty key"
