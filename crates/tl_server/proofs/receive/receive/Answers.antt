use Rattle.std.proofs.Common.{refl}
use Rattle.tl_server.specs.declared.posted.Posted.TheVariants.{OtherMethod, Unsized, TooLarge}
use Rattle.tl_server.proofs.PostLemmas.{refused_by_end, refused_by_head, refused_by_memory}
use Rattle.tl_server.proofs.receive.receive.Goals as goal

pub returns-in-OtherMethod : goal.returns-in-OtherMethod
returns-in-OtherMethod g c = refused_by_head _ _ c.args.posted OtherMethod c.args.part.now 405 c.in-OtherMethod.is (λ rest. refl)

pub returns-in-Unsized : goal.returns-in-Unsized
returns-in-Unsized g c = refused_by_head _ _ c.args.posted Unsized c.args.part.now 400 c.in-Unsized.is (λ rest. refl)

pub returns-in-TooLarge : goal.returns-in-TooLarge
returns-in-TooLarge g c = refused_by_head _ _ c.args.posted TooLarge c.args.part.now 413 c.in-TooLarge.is (λ rest. refl)

pub returns-in-Cut : goal.returns-in-Cut
returns-in-Cut g c = refused_by_end _ c.args.posted c.args.part.now c.in-Sized.most c.in-Sized.is c.in-Cut.ensures

pub returns-in-NoMemory : goal.returns-in-NoMemory
returns-in-NoMemory g c = refused_by_memory _ c.args.posted c.args.part.now c.in-Sized.most c.in-Sized.is c.in-NoMemory.ensures

pub returns-in-Whole : goal.returns-in-Whole
returns-in-Whole g c = record { size = c.in-Sized.most; sized = c.in-Sized.is; read = c.in-Whole.ensures }
