use Rattle.vm_calls.proofs.Lemmas.{method-asks, native-asked, read-method, target-first}
use Rattle.vm_calls.proofs.attribute_laws.methods.laws_of_methods.Goals as goal

pub returns-clause-read : goal.returns-clause-read
returns-clause-read c = read-method

pub returns-clause-first : goal.returns-clause-first
returns-clause-first c = target-first

pub returns-clause-method : goal.returns-clause-method
returns-clause-method c = method-asks

pub returns-clause-native : goal.returns-clause-native
returns-clause-native c = native-asked
