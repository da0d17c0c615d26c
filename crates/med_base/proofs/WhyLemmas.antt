-- What follows from a fact on a cause.
use Rattle.med_base.specs.declared.memory.OrMemory.{OrMemory}
use Rattle.med_base.specs.declared.memory.OrMemory.TheVariants.{Why, Memory}
use Rattle.med_base.specs.Memory.{WhyIs}

pub why_weaker : {W : Type 0} (P Q : W → Type 0) → ((why : W) → P why → Q why)
    → (e : OrMemory W) → WhyIs P e → WhyIs Q e
why_weaker P Q weaker (Why why) is = weaker why is
why_weaker P Q weaker Memory is = tt
