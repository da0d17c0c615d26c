-- Want of memory beside the causes of a call.
use Rattle.med_base.specs.declared.memory.OrMemory.{OrMemory}
use Rattle.med_base.specs.declared.memory.OrMemory.TheVariants.{Why, Memory}

-- this holds of the cause; memory may want at any time
abbrev pub WhyIs : {W : Type 0} → (W → Type 0) → OrMemory W → Type 0
WhyIs P (Why why) = P why
WhyIs P Memory = Unit {0}
