use Rattle.vm_calls.proofs.Lemmas.{numbers_read}
use Rattle.vm_calls.proofs.protocols.number.PyNumber.find_methods.Goals as goal

pub returns : goal.returns
returns c = λ t r. numbers_read _ _ (c.slot.ensures t r) (c.slot-2.ensures t r) (c.slot-3.ensures t r) (c.slot-4.ensures t r) (c.slot-5.ensures t r) (c.slot-6.ensures t r) (c.slot-7.ensures t r) (c.slot-8.ensures t r) (c.slot-9.ensures t r) (c.slot-10.ensures t r) (c.slot-11.ensures t r) (c.slot-12.ensures t r) (c.slot-13.ensures t r) (c.slot-14.ensures t r) (c.slot-15.ensures t r) (c.slot-16.ensures t r) (c.slot-17.ensures t r) (c.slot-18.ensures t r) (c.slot-19.ensures t r) (c.slot-20.ensures t r) (c.slot-21.ensures t r) (c.slot-22.ensures t r) (c.slot-23.ensures t r) (c.slot-24.ensures t r) (c.slot-25.ensures t r) (c.slot-26.ensures t r) (c.slot-27.ensures t r) (c.slot-28.ensures t r) (c.slot-29.ensures t r) (c.slot-30.ensures t r) (c.slot-31.ensures t r) (c.slot-32.ensures t r) (c.slot-33.ensures t r) (c.slot-34.ensures t r) (c.slot-35.ensures t r) (c.slot-36.ensures t r) (c.slot-37.ensures t r) (c.slot-38.ensures t r) (c.slot-39.ensures t r) (c.slot-40.ensures t r) (c.slot-41.ensures t r) (c.slot-42.ensures t r) (c.slot-43.ensures t r) (c.slot-44.ensures t r) (c.slot-45.ensures t r) (c.slot-46.ensures t r) (c.slot-47.ensures t r) (c.slot-48.ensures t r) (c.slot-49.ensures t r)
