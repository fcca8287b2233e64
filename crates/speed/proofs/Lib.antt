pub mod FedSteps
